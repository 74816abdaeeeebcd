-- Each clause of a window is short, and its symbols are of kinds that are valid.
use Rattle.std.proofs.Common.{ℕ, suc, ◌≡◌, ◌≤◌, ap, sym, ◌∙◌, refl, List, [], ◌∷◌, ◌++◌, Bool, true, false, arith, eq-eqb, length, length-append}
use Rattle.std.specs.Prelude.{◌==◌, ◌&&◌, not, Option, Some, None, nat_lt, flat_map, find, if◌then◌else◌, ◌-◌, ◌≢◌, Contains}
use Rattle.std.specs.List.{AllByRecursion, list_any}
use Rattle.std.specs.Str.{bytes_eq}
use Rattle.std.proofs.lemmas.Bool.{false≢true}
use Rattle.gp_clause.specs.Problem.{IsValidKind}
use Rattle.gp_trace.specs.declared.lock_use.LockMode.{LockMode}
use Rattle.gp_trace.specs.declared.lock_use.LockUse.TheVariants.{Take, GiveBack}
use Rattle.gp_window.specs.Events.{size_of}
use Rattle.gp_window.specs.Holders.{Holding}
use Rattle.gp_window.specs.Starts.{is_among}
use Rattle.gp_window.specs.WindowForm.{WindowForm, held_at_start}
use Rattle.gp_constraint.specs.declared.action.Action.{Action}
use Rattle.gp_constraint.specs.declared.action.Action.TheVariants as action
use Rattle.gp_constraint.specs.declared.point.Point.{Point}
use Rattle.gp_constraint.specs.declared.symbol.Symbol.{Symbol}
use Rattle.gp_constraint.specs.declared.symbol.Symbol.TheVariants.{Executed, Last, Order, Signal}
use Rattle.gp_constraint.specs.declared.symbol.SymbolicLit.{SymbolicLit}
use Rattle.gp_constraint.specs.declared.term.Term.{Term}
use Rattle.gp_constraint.specs.Base.{clauses_of}
use Rattle.gp_base.specs.ListLaws.{contains_found, recursion_append, recursion_flat_map}
use Rattle.gp_constraint.specs.FitLaws.{each_either, each_lit, each_unless, each_when, few_lits, OfLit}
use Rattle.gp_constraint.specs.HeldLocks.{held_apart}
use Rattle.gp_constraint.specs.Joins.{ended, is_last_of, join_of, joined_by, joins}
use Rattle.gp_constraint.specs.PointLaws.{one_point, point_within}
use Rattle.gp_constraint.specs.Points.{points_of}
use Rattle.gp_constraint.specs.ProgramOrder.{linked, program_order}
use Rattle.gp_constraint.specs.Reads.{choice, choices, choices_of, finds_at_start, is_choice, is_read, is_rival, kept_apart, kept_later, reads, seen_from, start_choice, start_choices}
use Rattle.gp_constraint.specs.Sections.{apart, ends_hold, exclude, in_either_order, sections, sections_apart, takes_against}
use Rattle.gp_constraint.specs.Starts.{is_start_of, start_of, starts}
use Rattle.gp_constraint.specs.Symbols.{kind_of}
use Rattle.gp_constraint.specs.Terms.{before, chosen, constant, executed, first, is_always, lit_of, literal, needs, preceded, simplified, start_chosen}

-- the kind of a symbol of a window is valid; that a write is the last, and that a wake takes a signal, are none of its symbols
abbrev pub IsValidSymbol : ℕ → Symbol → Type 0
IsValidSymbol n (Last w) = ⊥
IsValidSymbol n (Signal w g) = ⊥
IsValidSymbol n s = IsValidKind n (kind_of s)

-- its kind is valid
pub valid_kind : (n : ℕ) (s : Symbol) → IsValidSymbol n s → IsValidKind n (kind_of s)
valid_kind n (Last w) h = absurd h
valid_kind n (Signal w g) h = absurd h
valid_kind n s h = h

abbrev pub AreValidLits : ℕ → List SymbolicLit → Type 0
AreValidLits n lits = AllByRecursion (λ (lit : SymbolicLit). IsValidSymbol n lit.symbol) lits

-- a clause is short, and its symbols are valid
abbrev pub IsGood : ℕ → List SymbolicLit → Type 0
IsGood n clause = (length clause ≤ 2052) × AreValidLits n clause

abbrev pub AreGood : ℕ → List (List SymbolicLit) → Type 0
AreGood n clauses = AllByRecursion (IsGood n) clauses

abbrev IsGoodTerm : ℕ → Term → Type 0
IsGoodTerm n term = OfLit (λ (lit : SymbolicLit). IsValidSymbol n lit.symbol) term

abbrev AreGoodTerms : ℕ → List Term → Type 0
AreGoodTerms n terms = AllByRecursion (IsGoodTerm n) terms

good_term : (n : ℕ) (b : Bool) (x y : Term) → (b ≡ true → IsGoodTerm n x) → (b ≡ false → IsGoodTerm n y) → IsGoodTerm n (if b then x else y)
good_term n true x y h k = h refl
good_term n false x y h k = k refl

good_simplified : (n : ℕ) (terms : List Term) → length terms ≤ 2052 → AreGoodTerms n terms → AreGood n (simplified terms)
good_simplified n terms short h =
    let few = few_lits terms in
    let valid : AreValidLits n (flat_map lit_of terms) = each_lit (λ (lit : SymbolicLit). IsValidSymbol n lit.symbol) terms h in
    each_unless (IsGood n) (list_any is_always terms) (flat_map lit_of terms ∷ []) ((omega (arith, few, short), valid), tt)

good_constant : (n : ℕ) (b : Bool) → IsGoodTerm n (constant b)
good_constant n true = tt
good_constant n false = tt

thread_apart : (e f : Point) → (e.id.thread == f.id.thread) ≡ false → e ≡ f → ⊥
thread_apart e f other same =
    let threads : e.id.thread ≡ f.id.thread = ap (λ (p : Point). p.id.thread) same in
    absurd (false≢true (sym other ∙ eq-eqb e.id.thread f.id.thread threads))

good_before : (window : WindowForm) (e f : Point) → Contains (points_of window) e → Contains (points_of window) f
    → IsGoodTerm (length (points_of window)) (before e f)
good_before window e f i j =
    let n : ℕ = length (points_of window) in
    good_term n (e.id.thread == f.id.thread) (constant (nat_lt e.id.index f.id.index))
    (if nat_lt e.number f.number then literal (Order e.number f.number) true else literal (Order f.number e.number) false)
    (λ same. good_constant n (nat_lt e.id.index f.id.index))
    (λ other.
    let differ : e.number ≢ f.number = λ numbers. thread_apart e f other (one_point window e f i j numbers) in
    good_term n (nat_lt e.number f.number) (literal (Order e.number f.number) true) (literal (Order f.number e.number) false)
    (λ less. (point_within window e i, point_within window f j, differ))
    (λ more. (point_within window f j, point_within window e i, λ same. differ (sym same))))

good_preceded : (window : WindowForm) (guards : List Term) (test : Point → Bool) (f : Point) → length guards ≤ 3
    → AreGoodTerms (length (points_of window)) guards → Contains (points_of window) f
    → AreGood (length (points_of window)) (preceded guards (find test (points_of window)) f)
good_preceded window guards test f few good i = of (find test (points_of window)) refl
  where
    of : (found : Option Point) → find test (points_of window) ≡ found → AreGood (length (points_of window)) (preceded guards found f)
    of None e = good_simplified (length (points_of window)) guards (omega (arith, few)) good
    of (Some s) e =
        let n : ℕ = length (points_of window) in
        let has = (contains_found test (points_of window) s e).0 in
        let one = length-append guards (executed s true ∷ []) in
        let two = length-append guards (before s f ∷ []) in
        recursion_append (IsGood n) (simplified (guards ++ executed s true ∷ [])) (simplified (guards ++ before s f ∷ []))
        (good_simplified n (guards ++ executed s true ∷ []) (omega (arith, one, few)) (recursion_append (IsGoodTerm n) guards (executed s true ∷ []) good (tt, tt)))
        (good_simplified n (guards ++ before s f ∷ []) (omega (arith, two, few)) (recursion_append (IsGoodTerm n) guards (before s f ∷ []) good (good_before window s f has i, tt)))

good_needs : (window : WindowForm) (test : Point → Bool) (f : Point) → Contains (points_of window) f
    → AreGood (length (points_of window)) (needs f (find test (points_of window)))
good_needs window test f i = good_preceded window (executed f false ∷ []) test f (omega arith) (tt, tt) i

at_most : (b : Bool) (term : Term) → length (if b then term ∷ [] else []) ≤ 1
at_most true term = omega arith
at_most false term = omega arith

few_choices : (r : Point) (points : List Point) → length (flat_map (choice r) points) ≤ length points
few_choices r [] = omega arith
few_choices r (w ∷ points) =
    let rest = few_choices r points in
    let one = at_most (is_choice r w) (chosen r w true) in
    let joined = length-append (choice r w) (flat_map (choice r) points) in
    omega (arith, rest, one, joined)

good_one : (n : ℕ) (b : Bool) (term : Term) → IsGoodTerm n term → AreGoodTerms n (if b then term ∷ [] else [])
good_one n true term h = (h, tt)
good_one n false term h = tt

good_choices : (window : WindowForm) (r : Point) → length (points_of window) ≤ 2048 → AreGood (length (points_of window)) (choices_of window (points_of window) r)
good_choices window r few =
    let points : List Point = points_of window in
    let n : ℕ = length points in
    let terms : List Term = flat_map (choice r) points in
    let last : List Term = start_choice window r in
    let some = few_choices r points in
    let one = at_most (finds_at_start window r.action) (start_chosen r true) in
    let joined = length-append terms last in
    each_when (IsGood n) (is_read r.action) (simplified (executed r false ∷ terms ++ last))
    (good_simplified n (executed r false ∷ terms ++ last) (omega (arith, few, some, one, joined)) (
      tt,
      recursion_append (IsGoodTerm n) terms last (recursion_flat_map (IsGoodTerm n) (choice r) points (λ w i. good_one n (is_choice r w) (chosen r w true) tt))
          (good_one n (finds_at_start window r.action) (start_chosen r true) tt),
    ))

good_seen : (window : WindowForm) (r w : Point) → Contains (points_of window) r → Contains (points_of window) w
    → AreGood (length (points_of window)) (seen_from (points_of window) r w)
good_seen window r w i j =
    let points : List Point = points_of window in
    let n : ℕ = length points in
    let not_chosen : Term = chosen r w false in
    let one : List (List SymbolicLit) = simplified (not_chosen ∷ executed w true ∷ []) in
    let two : List (List SymbolicLit) = simplified (not_chosen ∷ before w r ∷ []) in
    let three : List (List SymbolicLit) = flat_map (kept_apart r w) points in
    each_when (IsGood n) (is_choice r w) ((one ++ two) ++ three)
    (recursion_append (IsGood n) (one ++ two) three
    (recursion_append (IsGood n) one two (good_simplified n (not_chosen ∷ executed w true ∷ []) (omega arith) (tt, (tt, tt)))
    (good_simplified n (not_chosen ∷ before w r ∷ []) (omega arith) (tt, (good_before window w r j i, tt))))
    (recursion_flat_map (IsGood n) (kept_apart r w) points (λ other k.
    each_when (IsGood n) (is_rival r.action other.action) (simplified (not_chosen ∷ executed other false ∷ before other w ∷ before r other ∷ []))
    (good_simplified n (not_chosen ∷ executed other false ∷ before other w ∷ before r other ∷ []) (omega arith)
    (tt, (tt, (good_before window other w k j, (good_before window r other i k, tt))))))))

good_start : (window : WindowForm) (r other : Point) → Contains (points_of window) r → Contains (points_of window) other
    → AreGood (length (points_of window)) (kept_later window r other)
good_start window r other i k =
    let n : ℕ = length (points_of window) in
    each_when (IsGood n) (finds_at_start window r.action && is_rival r.action other.action) (simplified (start_chosen r false ∷ executed other false ∷ before r other ∷ []))
    (good_simplified n (start_chosen r false ∷ executed other false ∷ before r other ∷ []) (omega arith) (tt, (tt, (good_before window r other i k, tt))))

good_either_order : (window : WindowForm) (a : Point) (mode : LockMode) (c : Point) (other : LockMode) (lock : List ℕ) → Contains (points_of window) a → Contains (points_of window) c
    → AreGood (length (points_of window)) (in_either_order (points_of window) a mode c other lock)
good_either_order window a mode c other lock i j =
    let points : List Point = points_of window in
    let n : ℕ = length points in
    let one : List Term = executed a false ∷ executed c false ∷ first a c false ∷ [] in
    let two : List Term = executed a false ∷ executed c false ∷ first a c true ∷ [] in
    recursion_append (IsGood n) (preceded one (find (ends_hold mode lock a.id.thread (suc a.id.index)) points) c) (preceded two (find (ends_hold other lock c.id.thread (suc c.id.index)) points) a)
    (good_preceded window one (ends_hold mode lock a.id.thread (suc a.id.index)) c (omega arith) (tt, (tt, (tt, tt))) j)
    (good_preceded window two (ends_hold other lock c.id.thread (suc c.id.index)) a (omega arith) (tt, (tt, (tt, tt))) i)

good_apart : (window : WindowForm) (a c : Point) (one two : Action) → Contains (points_of window) a → Contains (points_of window) c
    → AreGood (length (points_of window)) (apart (points_of window) a c one two)
good_apart window a c (action.Lock (Take mode lock)) (action.Lock (Take other again)) i j =
    each_when (IsGood (length (points_of window))) (bytes_eq lock again && (exclude mode other && nat_lt a.id.thread c.id.thread))
    (in_either_order (points_of window) a mode c other lock) (good_either_order window a mode c other lock i j)
good_apart window a c (action.Lock (Take mode lock)) (action.Lock (GiveBack other again)) i j = tt
good_apart window a c (action.Lock (Take mode lock)) (action.Read name value) i j = tt
good_apart window a c (action.Lock (Take mode lock)) (action.Write name value) i j = tt
good_apart window a c (action.Lock (Take mode lock)) (action.Start thread) i j = tt
good_apart window a c (action.Lock (Take mode lock)) (action.Join thread) i j = tt
good_apart window a c (action.Lock (Take mode lock)) action.Other i j = tt
good_apart window a c (action.Lock (GiveBack mode lock)) two i j = tt
good_apart window a c (action.Read name value) two i j = tt
good_apart window a c (action.Write name value) two i j = tt
good_apart window a c (action.Start thread) two i j = tt
good_apart window a c (action.Join thread) two i j = tt
good_apart window a c action.Other two i j = tt

good_ended : (window : WindowForm) (j : Point) (thread : ℕ) → Contains (points_of window) j
    → AreGood (length (points_of window)) (ended window (points_of window) j thread)
good_ended window j thread i =
    let points : List Point = points_of window in
    let n : ℕ = length points in
    let start : List (List SymbolicLit) = needs j (find (is_start_of thread) points) in
    each_either (IsGood n) (size_of window thread == 0) (if is_among window.started thread then [] else start) (needs j (find (is_last_of window thread) points))
    (each_unless (IsGood n) (is_among window.started thread) start (good_needs window (is_start_of thread) j i)) (good_needs window (is_last_of window thread) j i)

good_join : (window : WindowForm) (j : Point) (does : Action) → Contains (points_of window) j → AreGood (length (points_of window)) (joined_by window (points_of window) j does)
good_join window j (action.Join thread) i =
    let n : ℕ = length (points_of window) in
    each_either (IsGood n) (is_among window.exited thread) (ended window (points_of window) j thread) (simplified (executed j false ∷ []))
    (good_ended window j thread i) (good_simplified n (executed j false ∷ []) (omega arith) (tt, tt))
good_join window j (action.Read name value) i = tt
good_join window j (action.Write name value) i = tt
good_join window j (action.Lock lock_use) i = tt
good_join window j (action.Start other) i = tt
good_join window j action.Other i = tt

good_held : (window : WindowForm) (hold : Holding) (c : Point) → Contains (points_of window) c → AreGood (length (points_of window)) (held_apart (points_of window) hold c)
good_held window hold c i =
    let points : List Point = points_of window in
    each_when (IsGood (length points)) (takes_against hold.1 hold.0.0 c.action && not (c.id.thread == hold.0.1))
    (needs c (find (ends_hold hold.1 hold.0.0 hold.0.1 0) points)) (good_needs window (ends_hold hold.1 hold.0.0 hold.0.1 0) c i)

pub good_families : (window : WindowForm) → length (points_of window) ≤ 2048 → AreGood (length (points_of window)) (clauses_of window)
good_families window few =
    let points : List Point = points_of window in
    let n : ℕ = length points in
    let c1 = recursion_flat_map (IsGood n) linked points (λ f i.
    each_unless (IsGood n) (f.id.index == 0) (simplified (executed f false ∷ literal (Executed (f.number - 1)) true ∷ []))
    (good_simplified n (executed f false ∷ literal (Executed (f.number - 1)) true ∷ []) (omega arith) (tt, (tt, tt)))) in
    let c2 = recursion_flat_map (IsGood n) (start_of window points) points (λ f i.
    each_when (IsGood n) (f.id.index == 0 && not (is_among window.started f.id.thread)) (needs f (find (is_start_of f.id.thread) points))
    (good_needs window (is_start_of f.id.thread) f i)) in
    let c3 = recursion_flat_map (IsGood n) (join_of window points) points (λ j i. good_join window j j.action i) in
    let c4 = recursion_flat_map (IsGood n) (choices_of window points) points (λ r i. good_choices window r few) in
    let c5 = recursion_flat_map (IsGood n) (λ r. flat_map (seen_from points r) points) points (λ r i.
    recursion_flat_map (IsGood n) (seen_from points r) points (λ w j. good_seen window r w i j)) in
    let c6 = recursion_flat_map (IsGood n) (λ r. flat_map (kept_later window r) points) points (λ r i.
    recursion_flat_map (IsGood n) (kept_later window r) points (λ other j. good_start window r other i j)) in
    let c7 = recursion_flat_map (IsGood n) (λ a. flat_map (sections_apart points a) points) points (λ a i.
    recursion_flat_map (IsGood n) (sections_apart points a) points (λ c j. good_apart window a c a.action c.action i j)) in
    let c8 = recursion_flat_map (IsGood n) (λ hold. flat_map (held_apart points hold) points) (held_at_start window) (λ hold k.
    recursion_flat_map (IsGood n) (held_apart points hold) points (λ c i. good_held window hold c i)) in
    recursion_append (IsGood n) (program_order points) _ c1
    (recursion_append (IsGood n) (starts window points) _ c2
    (recursion_append (IsGood n) (joins window points) _ c3
    (recursion_append (IsGood n) (reads window points) _ c4
    (recursion_append (IsGood n) (choices points) _ c5
    (recursion_append (IsGood n) (start_choices window points) _ c6
    (recursion_append (IsGood n) (sections points) _ c7 c8))))))
