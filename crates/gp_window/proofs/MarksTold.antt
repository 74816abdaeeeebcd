-- The check of the marks tells the first lock that two threads hold over one.
use Rattle.std.proofs.Common.{◌≡◌, ◌⊎◌, ◌∙◌, inl, inr, refl, ap, sym, subst, ℕ, zero, suc, ◌+◌, ◌-◌, ◌<◌, ◌≤◌, Bool, true, false, cond, List, [], ◌∷◌, arith, eqb-true, eq-eqb}
use Rattle.std.specs.Prelude.{◌==◌, ◌&&◌, ◌||◌, not, Contains, Option, Some, None, option_map, Result, Ok, Err}
use Rattle.std.specs.declared.cmp.Ordering.{Ordering}
use Rattle.std.specs.declared.cmp.Ordering.TheVariants.{Less, Equal, Greater}
use Rattle.std.specs.Cmp.Lexicographic.{slice_cmp}
use Rattle.std.specs.List.{AllByRecursion, find, list_any}
use Rattle.std.specs.List.Sorted.{IsStrictlySortedBy}
use Rattle.std.specs.Map.{keys_of}
use Rattle.std.specs.Ordering.{nat_cmp, ordering_reverse, ordering_then}
use Rattle.std.specs.Str.{bytes_eq}
use Rattle.std.proofs.lemmas.Bool.{and_parts, cases_eq, false_from_ne_true, or_right}
use Rattle.std.proofs.lemmas.Cmp.{nat_list_cmp_total, tied_itself}
use Rattle.std.proofs.lemmas.Map.Lookups.{exact_bytes}
use Rattle.std.proofs.lemmas.Option.{same_Some}
use Rattle.std.proofs.lemmas.Slice.Eq.{bytes_eq-Decides}
use Rattle.gp_base.specs.ListLaws.{first_or_rest, here, mapped, there}
use Rattle.gp_trace.specs.declared.lock_use.LockMode.{LockMode}
use Rattle.gp_trace.specs.declared.lock_use.LockMode.TheVariants.{Exclusive, Shared}
use Rattle.gp_trace.specs.Trace.{LocalTraceForm}
use Rattle.gp_window.specs.declared.fault.RecordingFault.{RecordingFault}
use Rattle.gp_window.specs.declared.fault.RecordingFault.TheVariants.{TwoHolders}
use Rattle.gp_window.specs.Contested.{first_contested, is_contested, is_held_beside}
use Rattle.gp_window.specs.Holders.{AreOrdered, held_over, Holding, Holdings, holder_cmp, is_exclusive}
use Rattle.gp_window.specs.HoldersLaws.{holder_total}
use Rattle.gp_window.specs.Marks.{after_marks, after_marks_from, unless_contested}
use Rattle.gp_window.specs.MarksTold.{IsFirstHeld, TwoHold, TwoHoldBefore}

-- a test that some element passes
any_to : {A : Type 0} (p : A → Bool) (xs : List A) → list_any p xs ≡ true → (x : A) × Contains xs x × (p x ≡ true)
any_to p [] passes = absurd (cc)
any_to {A} p (x ∷ xs) passes = by_cases (any_to p xs) (p x) refl passes
  where
    by_cases : (list_any p xs ≡ true → (y : A) × Contains xs y × (p y ≡ true)) → (b : Bool) → p x ≡ b → (b || list_any p xs) ≡ true → (y : A) × Contains (x ∷ xs) y × (p y ≡ true)
    by_cases behind true is one = (x, here x xs, is)
    by_cases behind false is one = let found = behind one in (found.0, there x xs found.0 found.1, found.2)

any_from : {A : Type 0} (p : A → Bool) (xs : List A) (x : A) → Contains xs x → p x ≡ true → list_any p xs ≡ true
any_from p [] x holds passes = absurd (omega (arith, holds.1))
any_from p (y ∷ xs) x holds passes =
    elim (first_or_rest y xs x holds) [
      | inl is ↦ ap (λ b. b || list_any p xs) (ap p is ∙ passes)
      | inr rest ↦ or_right (p y) (list_any p xs) (any_from p xs x rest passes)
    ]

exclusive : (mode : LockMode) → is_exclusive mode ≡ true → mode ≡ Exclusive
exclusive Exclusive is = refl
exclusive Shared is = absurd (cc)

not_not : (b : Bool) → not b ≡ true → b ≡ false
not_not true is = absurd (cc)
not_not false is = refl

-- a lock is contested exactly where two threads hold it, not both as readers
two_hold : (held : Holdings) (lock : List ℕ) → is_contested held lock ≡ true → TwoHold held lock
two_hold held lock is =
    let found = any_to (λ one. bytes_eq one.0.0 lock && (is_exclusive one.1 && is_held_beside held lock one.0.1)) held is in
    let one : Holding = found.0 in
    let own = and_parts _ _ found.2 in
    let rest = and_parts _ _ own.1 in
    let beside = any_to (λ other. bytes_eq other.0.0 lock && not (other.0.1 == one.0.1)) held rest.1 in
    let other : Holding = beside.0 in
    let its = and_parts _ _ beside.2 in
    let lock_one : one.0.0 ≡ lock = (bytes_eq-Decides one.0.0 lock).0 own.0 in
    let lock_other : other.0.0 ≡ lock = (bytes_eq-Decides other.0.0 lock).0 its.0 in (
      one.0.1,
      other.0.1,
      other.1,
      λ same. (let no : true ≡ false = sym (eq-eqb other.0.1 one.0.1 (sym same)) ∙ not_not (other.0.1 == one.0.1) its.1 in absurd (cc)),
      subst (λ m. Contains held ((lock, one.0.1), m)) (exclusive one.1 rest.0) (subst (λ l. Contains held ((l, one.0.1), one.1)) lock_one found.1),
      subst (λ l. Contains held ((l, other.0.1), other.1)) lock_other beside.1,
    )

hold_contested : (held : Holdings) (lock : List ℕ) → TwoHold held lock → is_contested held lock ≡ true
hold_contested held lock (one, other, mode, apart, first, second) =
    let on : bytes_eq lock lock ≡ true = (bytes_eq-Decides lock lock).1 refl in
    let differs : (other == one) ≡ false = false_from_ne_true _ (λ same. apart (sym (eqb-true other one same))) in
    let beside : is_held_beside held lock one ≡ true =
    any_from (λ (x : Holding). bytes_eq x.0.0 lock && not (x.0.1 == one)) held ((lock, other), mode) second (ap (λ b. b && not (other == one)) on ∙ ap not differs) in
    any_from (λ (x : Holding). bytes_eq x.0.0 lock && (is_exclusive x.1 && is_held_beside held lock x.0.1)) held ((lock, one), Exclusive) first
    (ap (λ b. b && (true && is_held_beside held lock one)) on ∙ beside)

-- what is found passes the test, and nothing that passes it is before
found_first : (p : Holding → Bool) (held : Holdings) (found : Holding) → AreOrdered held → find p held ≡ Some found
    → (p found ≡ true) × Contains held found × ((other : Holding) → Contains held other → p other ≡ true → holder_cmp other.0 found.0 ≡ Less → ⊥)
unfolding IsStrictlySortedBy
found_first p [] found rise is = absurd (cc)
found_first p (first ∷ held) found rise is = by_cases (found_first p held found rise.1) (p first) refl is
  where
    below : (all : Holdings) (other : Holding) → AllByRecursion (λ place. holder_cmp first.0 place ≡ Less) (keys_of all) → Contains all other → holder_cmp first.0 other.0 ≡ Less
    below [] other all holds = absurd (omega (arith, holds.1))
    below (one ∷ all) other less holds =
        elim (first_or_rest one all other holds) [ inl same ↦ subst (λ (x : Holding). holder_cmp first.0 x.0 ≡ Less) same less.0 | inr rest ↦ below all other less.1 rest ]

    none_before : (other : Holding) → Contains (first ∷ held) other → holder_cmp other.0 first.0 ≡ Less → ⊥
    none_before other holds less =
        elim (first_or_rest first held other holds) [
          | inl same ↦ (let tied : Equal ≡ Less = sym (tied_itself holder_total first.0) ∙ subst (λ (x : Holding). holder_cmp x.0 first.0 ≡ Less) (sym same) less in absurd (cc))
          | inr rest ↦ (let back : Less ≡ Greater = sym less ∙ holder_total.antisymm other.0 first.0 ∙ ap ordering_reverse (below held other rise.0 rest) in absurd (cc))
        ]

    by_cases : (find p held ≡ Some found → (p found ≡ true) × Contains held found × ((other : Holding) → Contains held other → p other ≡ true → holder_cmp other.0 found.0 ≡ Less → ⊥))
        → (b : Bool) → p first ≡ b → cond b (Some first) (find p held) ≡ Some found
        → (p found ≡ true) × Contains (first ∷ held) found × ((other : Holding) → Contains (first ∷ held) other → p other ≡ true → holder_cmp other.0 found.0 ≡ Less → ⊥)
    by_cases behind true passes e =
        let same : first ≡ found = same_Some first found e in
        subst (λ (x : Holding). (p x ≡ true) × Contains (first ∷ held) x × ((other : Holding) → Contains (first ∷ held) other → p other ≡ true → holder_cmp other.0 x.0 ≡ Less → ⊥)) same
        (passes, here first held, λ other holds other_passes. none_before other holds)
    by_cases behind false fails e =
        let found' = behind e in (
          found'.0,
          there first held found found'.1,
          λ other holds passes less.
              elim (first_or_rest first held other holds) [
                | inl same ↦ (let no : true ≡ false = sym passes ∙ ap p (sym same) ∙ fails in absurd (cc))
                | inr rest ↦ found'.2 other rest passes less
              ],
        )

-- nothing is found only where none passes
none_found : (p : Holding → Bool) (held : Holdings) (other : Holding) → find p held ≡ None → Contains held other → p other ≡ true → ⊥
none_found p [] other is holds passes = absurd (omega (arith, holds.1))
none_found p (first ∷ held) other is holds passes = by_cases (none_found p held other) (p first) refl is
  where
    by_cases : (find p held ≡ None → Contains held other → p other ≡ true → ⊥) → (b : Bool) → p first ≡ b → cond b (Some first) (find p held) ≡ None → ⊥
    by_cases behind true own e = absurd (cc)
    by_cases behind false own e =
        elim (first_or_rest first held other holds) [
          | inl same ↦ (let no : true ≡ false = sym passes ∙ ap p (sym same) ∙ own in absurd (cc))
          | inr rest ↦ behind e rest passes
        ]

-- the least lock that two threads hold is told
pub told_least : (held : Holdings) (lock : List ℕ) → AreOrdered held → first_contested held ≡ Some lock
    → TwoHold held lock × ((other : List ℕ) → TwoHold held other → slice_cmp nat_cmp other lock ≡ Less → ⊥)
told_least held lock rise is =
    let part = mapped (λ (one : Holding). one.0.0) (find (λ one. is_contested held one.0.0) held) lock is in
    let found = found_first (λ one. is_contested held one.0.0) held part.0 rise part.1 in (
      two_hold held lock (subst (λ l. is_contested held l ≡ true) part.2 found.0),
      λ other two less.
          let before : slice_cmp nat_cmp other part.0.0.0 ≡ Less = subst (λ l. slice_cmp nat_cmp other l ≡ Less) (sym part.2) less in
          found.2 ((other, two.0), Exclusive) two.4 (hold_contested held other two) (ap (λ o. ordering_then o (nat_cmp two.0 part.0.0.1)) before),
    )

-- none is told exactly where two threads hold none
pub told_none : (held : Holdings) (lock : List ℕ) → first_contested held ≡ None → TwoHold held lock → ⊥
told_none held lock is two = by_cases (find (λ (one : Holding). is_contested held one.0.0) held) refl is
  where
    by_cases : (found : Option Holding) → find (λ (one : Holding). is_contested held one.0.0) held ≡ found → option_map (λ (one : Holding). one.0.0) found ≡ None → ⊥
    by_cases (Some one) same e = absurd (cc)
    by_cases None same e = none_found (λ one. is_contested held one.0.0) held ((lock, two.0), Exclusive) same two.4 (hold_contested held lock two)

-- where a mark is told, it is the first over which a lock is contested
abbrev IsFirstMark : List LocalTraceForm → ℕ → ℕ → RecordingFault → Type 0
IsFirstMark traces passed more fault =
    (lock : List ℕ) × (before : ℕ) × (fault ≡ TwoHolders lock (before + 1)) × (passed < before) × (before ≤ passed + more)
    × (first_contested (held_over traces before) ≡ Some lock) × ((earlier : ℕ) → passed < earlier → earlier < before → first_contested (held_over traces earlier) ≡ None)

marks_to : (traces : List LocalTraceForm) (passed more : ℕ) (fault : RecordingFault) → after_marks_from traces passed more ≡ Err fault → IsFirstMark traces passed more fault
marks_to traces passed zero fault is = absurd (cc)
marks_to traces passed (suc more) fault is = by_cases (marks_to traces (passed + 1) more fault) (first_contested (held_over traces (passed + 1))) refl is
  where
    fault_in : Result (Unit {0}) RecordingFault → RecordingFault
    fault_in (Ok u) = fault
    fault_in (Err other) = other

    by_cases : (after_marks_from traces (passed + 1) more ≡ Err fault → IsFirstMark traces (passed + 1) more fault)
        → (found : Option (List ℕ)) → first_contested (held_over traces (passed + 1)) ≡ found → unless_contested (passed + 2) found (after_marks_from traces (passed + 1) more) ≡ Err fault
        → IsFirstMark traces passed (suc more) fault
    by_cases behind (Some lock) here' e =
        let number : passed + 2 ≡ passed + 1 + 1 = omega arith in
        (lock, passed + 1, sym (ap fault_in e) ∙ ap (TwoHolders lock) number, omega arith, omega arith, here', λ earlier low high. absurd (omega (arith, low, high)))
    by_cases behind None here' e =
        let found = behind e in (
          found.0,
          found.1,
          found.2,
          omega (arith, found.3),
          omega (arith, found.4),
          found.5,
          λ earlier low high.
              elim (cases_eq (passed + 1) earlier) [
                | inl same ↦ subst (λ n. first_contested (held_over traces n) ≡ None) same here'
                | inr apart ↦ found.6 earlier (omega (arith, low, apart)) high
              ],
        )

marks_pass : (traces : List LocalTraceForm) (passed more : ℕ) → after_marks_from traces passed more ≡ Ok tt
    → (before : ℕ) → passed < before → before ≤ passed + more → first_contested (held_over traces before) ≡ None
marks_pass traces passed zero is before low high = absurd (omega (arith, low, high))
marks_pass traces passed (suc more) is before low high = by_cases (marks_pass traces (passed + 1) more) (first_contested (held_over traces (passed + 1))) refl is
  where
    by_cases : (after_marks_from traces (passed + 1) more ≡ Ok tt → (mark : ℕ) → passed + 1 < mark → mark ≤ passed + 1 + more → first_contested (held_over traces mark) ≡ None)
        → (found : Option (List ℕ)) → first_contested (held_over traces (passed + 1)) ≡ found → unless_contested (passed + 2) found (after_marks_from traces (passed + 1) more) ≡ Ok tt
        → first_contested (held_over traces before) ≡ None
    by_cases behind (Some lock) here' e = absurd (cc)
    by_cases behind None here' e =
        elim (cases_eq (passed + 1) before) [
          | inl same ↦ subst (λ n. first_contested (held_over traces n) ≡ None) same here'
          | inr apart ↦ behind e before (omega (arith, low, apart)) (omega (arith, high))
        ]

-- what the check of all marks gives
told_or_not : (epochs : ℕ) (traces : List LocalTraceForm) → ((fault : RecordingFault) × (after_marks epochs traces ≡ Err fault)) ⊎ (after_marks epochs traces ≡ Ok tt)
told_or_not epochs traces = by_cases (after_marks epochs traces) refl
  where
    by_cases : (r : Result (Unit {0}) RecordingFault) → after_marks epochs traces ≡ r → ((fault : RecordingFault) × (after_marks epochs traces ≡ Err fault)) ⊎ (after_marks epochs traces ≡ Ok tt)
    by_cases (Ok u) is = inr is
    by_cases (Err fault) is = inl (fault, is)

-- the first mark over which two threads hold a lock is told
pub first_told : (epochs : ℕ) (traces : List LocalTraceForm) (fault : RecordingFault) → ((before : ℕ) → AreOrdered (held_over traces before)) → after_marks epochs traces ≡ Err fault
    → (lock : List ℕ) × (window : ℕ) × (fault ≡ TwoHolders lock window) × IsFirstHeld epochs traces lock window
first_told epochs traces fault rise is =
    let found = marks_to traces 0 (epochs - 1) fault is in
    let lock : List ℕ = found.0 in
    let before : ℕ = found.1 in
    let same : before + 1 - 1 ≡ before = omega arith in
    let least = told_least (held_over traces before) lock (rise before) found.5 in (
      lock,
      before + 1,
      found.2,
      record {
        within = (omega (arith, found.3), omega (arith, found.3, found.4));
        held = subst (λ n. TwoHold (held_over traces n) lock) (sym same) least.0;
        first = λ earlier other low high two. told_none (held_over traces (earlier - 1)) other (found.6 (earlier - 1) (omega (arith, low)) (omega (arith, low, high))) two;
        least = λ other two less. least.1 other (subst (λ n. TwoHold (held_over traces n) other) same two) less;
      },
    )

pub none_held : (epochs : ℕ) (traces : List LocalTraceForm) → after_marks epochs traces ≡ Ok tt
    → (window : ℕ) (lock : List ℕ) → 2 ≤ window → window ≤ epochs → TwoHoldBefore traces window lock → ⊥
none_held epochs traces is window lock low high two =
    told_none (held_over traces (window - 1)) lock (marks_pass traces 0 (epochs - 1) is (window - 1) (omega (arith, low)) (omega (arith, low, high))) two

pub held_none : (epochs : ℕ) (traces : List LocalTraceForm) → ((before : ℕ) → AreOrdered (held_over traces before))
    → ((window : ℕ) (lock : List ℕ) → 2 ≤ window → window ≤ epochs → TwoHoldBefore traces window lock → ⊥) → after_marks epochs traces ≡ Ok tt
held_none epochs traces rise none =
    elim (told_or_not epochs traces) [
      | inl told ↦ (let found = first_told epochs traces told.0 rise told.1 in absurd (none found.1 found.0 found.3.within.0 found.3.within.1 found.3.held))
      | inr passed ↦ passed
    ]

-- of two first windows neither is earlier, and of two least locks neither is less
same_window : (epochs : ℕ) (traces : List LocalTraceForm) (lock other : List ℕ) (window later : ℕ) → IsFirstHeld epochs traces lock window → IsFirstHeld epochs traces other later
    → window < later → ⊥
same_window epochs traces lock other window later one two less = two.first window lock one.within.0 less one.held

same_lock : (one other : List ℕ) (order : Ordering) → slice_cmp nat_cmp one other ≡ order → (slice_cmp nat_cmp one other ≡ Less → ⊥) → (slice_cmp nat_cmp other one ≡ Less → ⊥) → one ≡ other
same_lock one other Less is not_less not_more = absurd (not_less is)
same_lock one other Equal is not_less not_more = exact_bytes one other is
same_lock one other Greater is not_less not_more = absurd (not_more (nat_list_cmp_total.antisymm other one ∙ ap ordering_reverse is))

pub told_first : (epochs : ℕ) (traces : List LocalTraceForm) (fault : RecordingFault) → ((before : ℕ) → AreOrdered (held_over traces before))
    → (lock : List ℕ) × (window : ℕ) × (fault ≡ TwoHolders lock window) × IsFirstHeld epochs traces lock window → after_marks epochs traces ≡ Err fault
told_first epochs traces fault rise (lock, window, is, one) =
    elim (told_or_not epochs traces) [
      | inr passed ↦ absurd (none_held epochs traces passed window lock one.within.0 one.within.1 one.held)
      | inl told ↦
          (let found = first_told epochs traces told.0 rise told.1 in
          let other : List ℕ = found.0 in
          let later : ℕ = found.1 in
          let two = found.3 in
          let windows : later ≡ window = elim (cases_eq later window) [
            | inl same ↦ same
            | inr apart ↦ elim (less_or_more later window apart) [
              | inl less ↦ absurd (same_window epochs traces other lock later window two one less)
              | inr more ↦ absurd (same_window epochs traces lock other window later one two more)
            ]
          ] in
          let there' : TwoHoldBefore traces window other = subst (λ n. TwoHoldBefore traces n other) windows two.held in
          let back : TwoHoldBefore traces later lock = subst (λ n. TwoHoldBefore traces n lock) (sym windows) one.held in
          let locks : other ≡ lock = same_lock other lock (slice_cmp nat_cmp other lock) refl (λ less. one.least other there' less) (λ less. two.least lock back less) in
          told.1 ∙ ap Err (found.2 ∙ ap (λ l. TwoHolders l later) locks ∙ ap (TwoHolders lock) windows ∙ sym is))
    ]
  where
    less_or_more : (a b : ℕ) → (a ≡ b → ⊥) → (a < b) ⊎ (b < a)
    less_or_more zero zero apart = absurd (apart refl)
    less_or_more zero (suc b) apart = inl (omega arith)
    less_or_more (suc a) zero apart = inr (omega arith)
    less_or_more (suc a) (suc b) apart = elim (less_or_more a b (λ same. apart (ap suc same))) [ inl less ↦ inl (omega (arith, less)) | inr more ↦ inr (omega (arith, more)) ]
