-- Over a mark no lock has two holders, or a holder and a reader.
use Rattle.std.proofs.Common.{◌≡◌, ◌∙◌, refl, ap, sym, subst, inl, inr, Bool, true, false, cond, ℕ, zero, suc, ◌+◌, ◌-◌, ◌<◌, ◌≤◌, List, [], ◌∷◌, map, arith, eqb-true}
use Rattle.std.specs.Prelude.{◌&&◌, ◌||◌, ◌==◌, not, filter, find, Option, Some, None, option_map, Result, Ok}
use Rattle.std.specs.declared.cmp.Ordering.{Ordering}
use Rattle.std.specs.declared.cmp.Ordering.TheVariants.{Less, Equal, Greater}
use Rattle.std.specs.BTreeMap.{is_at}
use Rattle.std.specs.Cmp.Lexicographic.{slice_cmp}
use Rattle.std.specs.List.{AllByRecursion, Contains, list_any}
use Rattle.std.specs.List.Sorted.{IsStrictlySortedBy}
use Rattle.std.specs.Map.{keys_of}
use Rattle.std.specs.Ordering.{is_eq, nat_cmp, ordering_then}
use Rattle.std.specs.Str.{bytes_eq}
use Rattle.std.proofs.lemmas.Bool.{cases_Bool, cases_eq, false≢true, true≢false}
use Rattle.std.proofs.lemmas.Map.Lookups.{exact_bytes}
use Rattle.std.proofs.lemmas.Slice.Eq.{bytes_eq-Decides}
use Rattle.gp_base.specs.ListLaws.{contains_map, first_or_rest, here, nothing_in, recursion_at, there}
use Rattle.gp_base.specs.Table.{value_at}
use Rattle.gp_trace.specs.declared.lock_use.LockMode.{LockMode}
use Rattle.gp_trace.specs.declared.lock_use.LockMode.TheVariants.{Exclusive, Shared}
use Rattle.gp_trace.specs.Trace.{LocalTraceForm}
use Rattle.gp_window.specs.declared.fault.RecordingFault.{RecordingFault}
use Rattle.gp_window.specs.Contested.{first_contested, is_contested, is_held_beside}
use Rattle.gp_window.specs.Formed.{HasRisingNames, stands_at}
use Rattle.gp_window.specs.Holders.{AreOrdered, Holding, Holdings, held_over, holder_cmp, holders_among, is_exclusive, readers_among}
use Rattle.gp_window.specs.HoldersLaws.{found_itself, found_pair}
use Rattle.gp_window.specs.Marks.{after_marks, after_marks_from, unless_contested}

-- a mark that was passed contests no lock
not_told : (k : ℕ) (lock : Option (List ℕ)) (later : Result (Unit {0}) RecordingFault) → unless_contested k lock later ≡ Ok tt → (lock ≡ None) × (later ≡ Ok tt)
not_told k (Some lock) later e = cc
not_told k None later e = (refl, e)

passed_from : (traces : List LocalTraceForm) (passed more before : ℕ) → after_marks_from traces passed more ≡ Ok tt → passed < before → before ≤ passed + more
    → first_contested (held_over traces before) ≡ None
passed_from traces passed zero before e low high = absurd (omega (arith, low, high))
passed_from traces passed (suc more) before e low high =
    let parts = not_told (passed + 2) (first_contested (held_over traces (passed + 1))) (after_marks_from traces (passed + 1) more) e in
    elim (cases_eq (passed + 1) before) [
      | inl same ↦ subst (λ n. first_contested (held_over traces n) ≡ None) same parts.0
      | inr apart ↦ passed_from traces (passed + 1) more before parts.1 (omega (arith, low, apart)) (omega (arith, high))
    ]

-- no lock is contested over a mark before the last epoch
pub uncontested : (traces : List LocalTraceForm) (epochs before : ℕ) → after_marks epochs traces ≡ Ok tt → before < epochs
    → first_contested (held_over traces before) ≡ None
uncontested traces epochs zero e below = refl
uncontested traces epochs (suc before) e below = passed_from traces 0 (epochs - 1) (suc before) e (omega arith) (omega (arith, below))

-- of two tests that fail together
neither : (a b : Bool) → (a || b) ≡ false → (a ≡ false) × (b ≡ false)
neither true b e = absurd (true≢false e)
neither false b e = (refl, e)

-- a test that none passes
passes_none : {X : Type 0} (test : X → Bool) (xs : List X) (x : X) → list_any test xs ≡ false → Contains xs x → test x ≡ false
passes_none test [] x none has = absurd (nothing_in x has)
passes_none test (y ∷ ys) x none has =
    let fails = neither (test y) (list_any test ys) none in
    elim (first_or_rest y ys x has) [
      | inl same ↦ subst (λ z. test z ≡ false) same fails.0
      | inr more ↦ passes_none test ys x fails.1 more
    ]

found_none_at : {X Y : Type 0} (name : X → Y) (b : Bool) (y : X) (rest : Option X) → option_map name (cond b (Some y) rest) ≡ None → (b ≡ false) × (option_map name rest ≡ None)
found_none_at name true y rest e = cc
found_none_at name false y rest e = (refl, e)

-- where none is found, none passes
found_none : {X Y : Type 0} (name : X → Y) (test : X → Bool) (xs : List X) (x : X) → option_map name (find test xs) ≡ None → Contains xs x → test x ≡ false
found_none name test [] x none has = absurd (nothing_in x has)
found_none name test (y ∷ ys) x none has =
    let fails = found_none_at name (test y) y (find test ys) none in
    elim (first_or_rest y ys x has) [
      | inl same ↦ subst (λ z. test z ≡ false) same fails.0
      | inr more ↦ found_none name test ys x fails.1 more
    ]

-- two tests, then a third, that fail together
last_fails : (a b c : Bool) → (a && (b && c)) ≡ false → a ≡ true → b ≡ true → c ≡ false
last_fails true true c e first second = e
last_fails true false c e first second = absurd (false≢true second)
last_fails false b c e first second = absurd (false≢true first)

same_thread : (a b : Bool) → (a && not b) ≡ false → a ≡ true → b ≡ true
same_thread true true e first = refl
same_thread true false e first = absurd (true≢false e)
same_thread false b e first = absurd (false≢true first)

-- a lock that is held alone by one thread is held by no other
one_thread : (held : Holdings) (one other : Holding) → first_contested held ≡ None → Contains held one → Contains held other → is_exclusive one.1 ≡ true
    → other.0.0 ≡ one.0.0 → other.0.1 ≡ one.0.1
one_thread held one other none first second alone same =
    let lock : List ℕ = one.0.0 in
    let free : is_contested held lock ≡ false = found_none (λ (x : Holding). x.0.0) (λ (x : Holding). is_contested held x.0.0) held one none first in
    let test : (bytes_eq one.0.0 lock && (is_exclusive one.1 && is_held_beside held lock one.0.1)) ≡ false =
    passes_none (λ (x : Holding). bytes_eq x.0.0 lock && (is_exclusive x.1 && is_held_beside held lock x.0.1)) held one free first in
    let own : bytes_eq one.0.0 lock ≡ true = (bytes_eq-Decides one.0.0 lock).1 refl in
    let beside : is_held_beside held lock one.0.1 ≡ false = last_fails (bytes_eq one.0.0 lock) (is_exclusive one.1) (is_held_beside held lock one.0.1) test own alone in
    let apart : (bytes_eq other.0.0 lock && not (other.0.1 == one.0.1)) ≡ false =
    passes_none (λ (x : Holding). bytes_eq x.0.0 lock && not (x.0.1 == one.0.1)) held other beside second in
    eqb-true other.0.1 one.0.1 (same_thread (bytes_eq other.0.0 lock) (other.0.1 == one.0.1) apart ((bytes_eq-Decides other.0.0 lock).1 same))

-- a name that differs from that before it is above it
less_name : (first second : Ordering) → ordering_then first second ≡ Less → (first ≡ Equal → ⊥) → first ≡ Less
less_name Less second e apart = refl
less_name Equal second e apart = absurd (apart refl)
less_name Greater second e apart = cc

-- two locks that are held alone have names in the order of the holdings
name_below : (held : Holdings) (one other : Holding) → first_contested held ≡ None → Contains held one → Contains held other → is_exclusive one.1 ≡ true
    → holder_cmp one.0 other.0 ≡ Less → slice_cmp nat_cmp one.0.0 other.0.0 ≡ Less
name_below held one other none first second alone less =
    less_name (slice_cmp nat_cmp one.0.0 other.0.0) (nat_cmp one.0.1 other.0.1) less (λ tied.
    let lock : one.0.0 ≡ other.0.0 = exact_bytes one.0.0 other.0.0 tied in
    let thread : other.0.1 ≡ one.0.1 = one_thread held one other none first second alone (sym lock) in
    let pair : other.0 ≡ one.0 = (λ i. (sym lock i, thread i)) in
    let itself : holder_cmp one.0 one.0 ≡ Less = subst (λ p. holder_cmp one.0 p ≡ Less) pair less in
    let here : is_eq (holder_cmp one.0 one.0) ≡ true = found_itself one.0 in
    false≢true (ap is_eq (sym itself) ∙ here))

-- the holdings of a part stand in the whole
abbrev Within : Holdings → Holdings → Type 0
Within part held = (one : Holding) → Contains part one → Contains held one

names_above : (held part : Holdings) (one : Holding) → first_contested held ≡ None → Contains held one → is_exclusive one.1 ≡ true → Within part held
    → AllByRecursion (λ key. holder_cmp one.0 key ≡ Less) (keys_of part)
    → AllByRecursion (λ name. slice_cmp nat_cmp one.0.0 name ≡ Less) (keys_of (holders_among part))
names_above held [] one none has alone inside above = tt
names_above held (other ∷ part) one none has alone inside above =
    at (is_exclusive other.1) (names_above held part one none has alone (λ x among. inside x (there _ _ _ among)) above.1)
  where
    at : (b : Bool) → AllByRecursion (λ name. slice_cmp nat_cmp one.0.0 name ≡ Less) (keys_of (holders_among part))
        → AllByRecursion (λ name. slice_cmp nat_cmp one.0.0 name ≡ Less)
        (keys_of (map (λ (x : Holding). x.0) (cond b (other ∷ filter (λ x. is_exclusive x.1) part) (filter (λ x. is_exclusive x.1) part))))
    at true rest = (name_below held one other none has (inside other (here _ _)) alone above.0, rest)
    at false rest = rest

part_rises : (held part : Holdings) → first_contested held ≡ None → Within part held → AreOrdered part → HasRisingNames (holders_among part)
unfolding IsStrictlySortedBy
part_rises held [] none inside rise = tt
part_rises held (one ∷ part) none inside rise = at (is_exclusive one.1) refl (part_rises held part none (λ x among. inside x (there _ _ _ among)) rise.1)
  where
    at : (b : Bool) → is_exclusive one.1 ≡ b → HasRisingNames (holders_among part)
        → HasRisingNames (map (λ (x : Holding). x.0) (cond b (one ∷ filter (λ x. is_exclusive x.1) part) (filter (λ x. is_exclusive x.1) part)))
    at true is rest = (names_above held part one none (inside one (here _ _)) is (λ x among. inside x (there _ _ _ among)) rise.0, rest)
    at false is rest = rest

-- the names of the locks that are held alone rise, where no lock is contested
pub holders_rise : (held : Holdings) → first_contested held ≡ None → AreOrdered held → HasRisingNames (holders_among held)
holders_rise held none rise = part_rises held held none (λ one has. has) rise

-- a holding at a place that is found among those that pass a test of their modes
record Found (held : Holdings) (place : List ℕ × ℕ) (p : LockMode → Bool) : Type 0 where
  one : Holding
  has : Contains held one
  is : one.0 ≡ place
  passes : p one.1 ≡ true

later : (held : Holdings) (first : Holding) (place : List ℕ × ℕ) (p : LockMode → Bool) → Found held place p → Found (first ∷ held) place p
later held first place p found = record { one = found.one; has = there _ _ _ found.has; is = found.is; passes = found.passes }

found_at : (held : Holdings) (first : Holding) (place : List ℕ × ℕ) (p : LockMode → Bool) (b : Bool) → p first.1 ≡ b
    → (list_any (is_at (holder_cmp place)) (map (λ (x : Holding). x.0) (filter (λ x. p x.1) held)) ≡ true → Found held place p)
    → list_any (is_at (holder_cmp place)) (map (λ (x : Holding). x.0) (cond b (first ∷ filter (λ x. p x.1) held) (filter (λ x. p x.1) held))) ≡ true
    → Found (first ∷ held) place p
found_at held first place p false is rest e = later held first place p (rest e)
found_at held first place p true is rest e =
    elim (cases_Bool (is_at (holder_cmp place) first.0)) [
      | inl tied ↦ record { one = first; has = here _ _; is = sym (found_pair place first.0 tied); passes = is }
      | inr apart ↦ later held first place p (rest (rw apart at e))
    ]

found : (held : Holdings) (place : List ℕ × ℕ) (p : LockMode → Bool)
    → list_any (is_at (holder_cmp place)) (map (λ (x : Holding). x.0) (filter (λ x. p x.1) held)) ≡ true → Found held place p
found [] place p e = absurd (false≢true e)
found (first ∷ held) place p e = found_at held first place p (p first.1) refl (found held place p) e

-- a holding among holdings in order is told at its place
told_at : (held : Holdings) (one : Holding) → AreOrdered held → Contains held one → value_at holder_cmp held one.0 ≡ Some one.1
unfolding IsStrictlySortedBy
told_at [] one rise has = absurd (nothing_in one has)
told_at (first ∷ held) one rise has =
    elim (first_or_rest first held one has) [
      | inl same ↦ subst (λ (x : Holding). value_at holder_cmp (first ∷ held) x.0 ≡ Some x.1) same (let itself = found_itself first.0 in rw itself refl)
      | inr more ↦
          let less : holder_cmp first.0 one.0 ≡ Less =
          recursion_at (λ key. holder_cmp first.0 key ≡ Less) (keys_of held) one.0 rise.0 (contains_map (λ (x : Holding). x.0) held one more) in
          elim (cases_Bool (is_at (holder_cmp one.0) first.0)) [
            | inl tied ↦
                let same : one.0 ≡ first.0 = found_pair one.0 first.0 tied in
                let bad : holder_cmp first.0 first.0 ≡ Less = subst (λ p. holder_cmp first.0 p ≡ Less) same less in
                absurd (false≢true (ap is_eq (sym bad) ∙ found_itself first.0))
            | inr apart ↦ rw apart (told_at held one rise.1 more)
          ]
    ]

both_ways : (mode : LockMode) → is_exclusive mode ≡ true → not (is_exclusive mode) ≡ true → ⊥
both_ways Exclusive first second = false≢true second
both_ways Shared first second = false≢true first

-- a lock that has a holder has no reader, where no lock is contested
pub holder_alone : (held : Holdings) → first_contested held ≡ None → AreOrdered held → (lock : List ℕ) (one other : ℕ)
    → stands_at (holders_among held) lock one ≡ true → stands_at (readers_among held) lock other ≡ true → ⊥
holder_alone held none rise lock one other holds reads =
    let first = found held (lock, one) is_exclusive holds in
    let second = found held (lock, other) (λ mode. not (is_exclusive mode)) reads in
    let locks : second.one.0.0 ≡ first.one.0.0 = ap (λ (p : List ℕ × ℕ). p.0) second.is ∙ sym (ap (λ (p : List ℕ × ℕ). p.0) first.is) in
    let threads : second.one.0.1 ≡ first.one.0.1 = one_thread held first.one second.one none first.has second.has first.passes locks in
    let places : second.one.0 ≡ first.one.0 = (λ i. (locks i, threads i)) in
    let told : ◌≡◌ {A = Option LockMode} (Some second.one.1) (Some first.one.1) =
    sym (told_at held second.one rise second.has) ∙ ap (λ place. value_at holder_cmp held place) places ∙ told_at held first.one rise first.has in
    let modes : second.one.1 ≡ first.one.1 = cc in
    both_ways first.one.1 first.passes (subst (λ mode. not (is_exclusive mode) ≡ true) modes second.passes)
