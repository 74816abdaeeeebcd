-- The clauses of signals are short, their kinds are valid, and no symbol has both signs in one.
use Rattle.std.proofs.Common.{ℕ, ◌≡◌, ◌≢◌, ◌≤◌, ◌+◌, ap, sym, ◌∙◌, refl, inl, inr, List, [], ◌∷◌, Bool, true, false, arith, eq-eqb, length}
use Rattle.std.specs.Prelude.{◌==◌, Contains, flat_map, filter, if◌then◌else◌, map, nat_lt, None, Option, slice_get, Some}
use Rattle.std.specs.List.{AllByRecursion, list_any}
use Rattle.std.proofs.lemmas.Bool.{cases_Bool, false≢true}
use Rattle.std.proofs.lemmas.List.{length-map}
use Rattle.gp_base.specs.FilterLaws.{contains_from_filter}
use Rattle.gp_base.specs.ListLaws.{contains_got, first_or_rest, here, nothing_in, Pairwise, recursion_append, recursion_flat_map, recursion_map}
use Rattle.gp_clause.specs.Problem.{IsValidKind}
use Rattle.gp_window.specs.WindowForm.{WindowForm}
use Rattle.gp_constraint.specs.declared.point.Point.{Point}
use Rattle.gp_constraint.specs.declared.symbol.Symbol.TheVariants.{Executed, Order, Signal}
use Rattle.gp_constraint.specs.declared.symbol.SymbolicLit.{SymbolicLit}
use Rattle.gp_constraint.specs.declared.term.Term.{Term}
use Rattle.gp_constraint.specs.declared.term.Term.TheVariants.{Always, Never, Literal}
use Rattle.gp_constraint.specs.Extended.{AreFit}
use Rattle.gp_constraint.specs.FitLaws.{each_lit, each_unless, each_when, few_lits, OfLit}
use Rattle.gp_constraint.specs.PointLaws.{one_point, point_within}
use Rattle.gp_constraint.specs.Points.{points_of}
use Rattle.gp_constraint.specs.Signed.{Agree, AreSigned}
use Rattle.gp_constraint.specs.Symbols.{kind_of}
use Rattle.gp_constraint.specs.Terms.{before, constant, executed, is_always, lit_of, literal, simplified}
use Rattle.gp_notify.specs.Calls.{call_at, is_wake}
use Rattle.gp_notify.specs.Signals.{between, may_take, not_both, notified, notifies_of, point_before, signals_of, signals_to, sleep_of, takers_of, takes, takes_one, wakes_of, woken, woken_by}
use Rattle.gp_notify.specs.Sleeping.{sleep_index}

-- a clause is not much longer than there are points, the kinds of its symbols are valid, and no symbol has both signs in it
abbrev IsGood : ℕ → List SymbolicLit → Type 0
IsGood n clause = ((length clause ≤ n + 4) × AllByRecursion (λ (lit : SymbolicLit). IsValidKind n (kind_of lit.symbol)) clause) × Pairwise Agree clause

abbrev AreGood : ℕ → List (List SymbolicLit) → Type 0
AreGood n clauses = AllByRecursion (IsGood n) clauses

abbrev IsGoodTerm : ℕ → Term → Type 0
IsGoodTerm n term = OfLit (λ (lit : SymbolicLit). IsValidKind n (kind_of lit.symbol)) term

good_clause : (n : ℕ) (terms : List Term) → length terms ≤ n + 4 → AllByRecursion (IsGoodTerm n) terms → Pairwise Agree (flat_map lit_of terms) → AreGood n (simplified terms)
good_clause n terms short h signed =
    let few = few_lits terms in
    let valid = each_lit (λ (lit : SymbolicLit). IsValidKind n (kind_of lit.symbol)) terms h in
    each_unless (IsGood n) (list_any is_always terms) (flat_map lit_of terms ∷ []) (((omega (arith, few, short), valid), signed), tt)

-- an order of two points is of a valid kind, and has another symbol than that a signal is taken
abbrev IsOrder : ℕ → ℕ → Term → Type 0
IsOrder w g term = (other : SymbolicLit) → Contains (lit_of term) other → Agree (record { symbol = Signal w g; positive = false }) other

order_constant : (n w g : ℕ) (b : Bool) → IsGoodTerm n (constant b) × IsOrder w g (constant b)
order_constant n w g true = (tt, λ other i. absurd (nothing_in _ i))
order_constant n w g false = (tt, λ other i. absurd (nothing_in _ i))

order_differs : (w g a b : ℕ) (positive : Bool) → IsOrder w g (literal (Order a b) positive)
order_differs w g a b positive = λ other i is.
    elim (first_or_rest (record { symbol = Order a b; positive = positive }) [] other i) [
      | inl same ↦ let bad : Signal w g ≡ Order a b = is ∙ sym (ap (λ (l : SymbolicLit). l.symbol) same) in absurd (cc)
      | inr none ↦ absurd (nothing_in _ none)
    ]

executed_differs : (w g a : ℕ) (positive : Bool) → IsOrder w g (literal (Executed a) positive)
executed_differs w g a positive = λ other i is.
    elim (first_or_rest (record { symbol = Executed a; positive = positive }) [] other i) [
      | inl same ↦ let bad : Signal w g ≡ Executed a = is ∙ sym (ap (λ (l : SymbolicLit). l.symbol) same) in absurd (cc)
      | inr none ↦ absurd (nothing_in _ none)
    ]

order_literal : (n w g a b : ℕ) (positive : Bool) → IsValidKind n (kind_of (Order a b)) → IsGoodTerm n (literal (Order a b) positive) × IsOrder w g (literal (Order a b) positive)
order_literal n w g a b positive valid = (valid, order_differs w g a b positive)

order_if : (n w g : ℕ) (b : Bool) (x y : Term) → (b ≡ true → IsGoodTerm n x × IsOrder w g x) → (b ≡ false → IsGoodTerm n y × IsOrder w g y)
    → IsGoodTerm n (if b then x else y) × IsOrder w g (if b then x else y)
order_if n w g true x y h k = h refl
order_if n w g false x y h k = k refl

order_good : (window : WindowForm) (w g : ℕ) (e f : Point) → Contains (points_of window) e → Contains (points_of window) f
    → IsGoodTerm (length (points_of window)) (before e f) × IsOrder w g (before e f)
order_good window w g e f i j =
    let n : ℕ = length (points_of window) in
    order_if n w g (e.id.thread == f.id.thread) (constant (nat_lt e.id.index f.id.index))
    (if nat_lt e.number f.number then literal (Order e.number f.number) true else literal (Order f.number e.number) false)
    (λ same. order_constant n w g (nat_lt e.id.index f.id.index))
    (λ other.
    let differ : e.number ≢ f.number = λ numbers.
    false≢true (sym other ∙ eq-eqb e.id.thread f.id.thread (ap (λ (p : Point). p.id.thread) (one_point window e f i j numbers))) in
    order_if n w g (nat_lt e.number f.number) (literal (Order e.number f.number) true) (literal (Order f.number e.number) false)
    (λ less. order_literal n w g e.number f.number true (point_within window e i, point_within window f j, differ))
    (λ more. order_literal n w g f.number e.number false (point_within window f j, point_within window e i, λ same. differ (sym same))))

-- all literals that a wake takes a signal are positive, and none is that the wake is executed
taken_agree : (w : Point) (signals : List Point) → AllByRecursion (λ (lit : SymbolicLit). lit.positive ≡ true) (flat_map lit_of (map (λ (g : Point). takes w g true) signals))
taken_agree w [] = tt
taken_agree w (g ∷ signals) = (refl, taken_agree w signals)

positive_rest : (lit : SymbolicLit) (lits : List SymbolicLit) → lit.positive ≡ true → AllByRecursion (λ (other : SymbolicLit). other.positive ≡ true) lits → AllByRecursion (Agree lit) lits
positive_rest lit [] own all = tt
positive_rest lit (other ∷ lits) own all = ((λ same. own ∙ sym all.0), positive_rest lit lits own all.1)

positive_agree : (lits : List SymbolicLit) → AllByRecursion (λ (lit : SymbolicLit). lit.positive ≡ true) lits → Pairwise Agree lits
positive_agree [] all = tt
positive_agree (lit ∷ lits) all = (positive_rest lit lits all.0 all.1, positive_agree lits all.1)

apart_rest : (w : Point) (signals : List Point) → AllByRecursion (Agree (record { symbol = Executed w.number; positive = false })) (flat_map lit_of (map (λ (g : Point). takes w g true) signals))
apart_rest w [] = tt
apart_rest w (g ∷ signals) = ((λ same. let bad : Executed w.number ≡ Signal w.number g.number = same in absurd (cc)), apart_rest w signals)

one_signed : (w : Point) (signals : List Point) → Pairwise Agree (flat_map lit_of (executed w false ∷ map (λ (g : Point). takes w g true) signals))
one_signed w signals = (apart_rest w signals, positive_agree (flat_map lit_of (map (λ (g : Point). takes w g true) signals)) (taken_agree w signals))

pair_signed : (w g : ℕ) (term : Term) → IsOrder w g term → Pairwise Agree (record { symbol = Signal w g; positive = false } ∷ flat_map lit_of (term ∷ []))
pair_signed w g Always order = (tt, tt)
pair_signed w g Never order = (tt, tt)
pair_signed w g (Literal lit) order = ((order lit (here lit []), tt), (tt, tt))

-- a filter keeps no more than there is
filter_shorter : (test : Point → Bool) (points : List Point) → length (filter test points) ≤ length points
filter_shorter test [] = omega arith
filter_shorter test (p ∷ points) =
    let rest = filter_shorter test points in
    elim (cases_Bool (test p)) [
      | inl passes ↦ rw passes (omega (arith, rest))
      | inr fails ↦ rw fails (omega (arith, rest))
    ]

-- a point that is looked up is one of the points
got_point : (points : List Point) (k : ℕ) (p : Point) → slice_get points k ≡ Some p → Contains points p
got_point points k p is = contains_got points k p is

module _ (window : WindowForm) where
  abbrev points : List Point
  points = points_of window

  abbrev n : ℕ
  n = length (points_of window)

  wake_point : (w : Point) → Contains (wakes_of window) w → Contains points w
  wake_point w i = (contains_from_filter (λ (p : Point). is_wake (call_at window p.id)) points w i).0

  sleep_point : (w s : Point) (index : Option ℕ) → point_before window w index ≡ Some s → Contains points s
  sleep_point w s None e = absurd (cc)
  sleep_point w s (Some index) e = got_point points _ s e

  good_pair : (w g : Point) (term : Term) → IsGoodTerm n term → IsOrder w.number g.number term → AreGood n (simplified (takes w g false ∷ term ∷ []))
  good_pair w g term valid order = good_clause n (takes w g false ∷ term ∷ []) (omega arith) (tt, (valid, tt)) (pair_signed w.number g.number term order)

  between_good : (w s g : Point) → Contains points w → Contains points s → Contains points g → AreGood n (between w s g)
  between_good w s g in_w in_s in_g =
      let after = order_good window w.number g.number s g in_s in_g in
      let first = order_good window w.number g.number g w in_g in_w in
      recursion_append (IsGood n) (simplified (takes w g false ∷ executed g true ∷ [])) _ (good_pair w g (executed g true) tt (executed_differs w.number g.number g.number true))
      (recursion_append (IsGood n) (simplified (takes w g false ∷ before s g ∷ [])) (simplified (takes w g false ∷ before g w ∷ []))
      (good_pair w g (before s g) after.0 after.1) (good_pair w g (before g w) first.0 first.1))

  takes_good : (w : Point) → AreGood n (takes_one (signals_to window w) w)
  takes_good w =
      let signals : List Point = signals_to window w in
      let few = filter_shorter (may_take window w) points in
      let size = length-map signals (λ (g : Point). takes w g true) in
      good_clause n (executed w false ∷ map (λ (g : Point). takes w g true) signals) (omega (arith, few, size))
      (tt, recursion_map (IsGoodTerm n) (λ (g : Point). takes w g true) signals (λ g i. tt)) (one_signed w signals)

  woken_good : (w : Point) (sleep : Option Point) → Contains points w → ((s : Point) → sleep ≡ Some s → Contains points s) → AreGood n (woken_by (signals_to window w) w sleep)
  woken_good w None in_w there = good_clause n (executed w false ∷ []) (omega arith) (tt, tt) (tt, tt)
  woken_good w (Some s) in_w there =
      recursion_append (IsGood n) (takes_one (signals_to window w) w) (flat_map (between w s) (signals_to window w)) (takes_good w)
      (recursion_flat_map (IsGood n) (between w s) (signals_to window w) (λ g i.
      between_good w s g in_w (there s refl) (contains_from_filter (may_take window w) points g i).0))

  both_good : (g w v : Point) → AreGood n (not_both g w v)
  both_good g w v =
      each_when (IsGood n) (nat_lt w.number v.number) (simplified (takes w g false ∷ takes v g false ∷ []))
      (good_clause n (takes w g false ∷ takes v g false ∷ []) (omega arith) (tt, (tt, tt)) (((λ same. refl), tt), (tt, tt)))

  all_good : AreGood n (signals_of window)
  all_good =
      recursion_append (IsGood n) (flat_map (woken window) (wakes_of window)) (flat_map (notified window) (notifies_of window))
      (recursion_flat_map (IsGood n) (woken window) (wakes_of window) (λ w i.
      woken_good w (sleep_of window w) (wake_point w i) (λ s e. sleep_point w s (sleep_index window w.id) e)))
      (recursion_flat_map (IsGood n) (notified window) (notifies_of window) (λ g i.
      recursion_flat_map (IsGood n) (λ w. flat_map (not_both g w) (takers_of window g)) (takers_of window g) (λ w j.
      recursion_flat_map (IsGood n) (not_both g w) (takers_of window g) (λ v k. both_good g w v))))

both_parts : (n : ℕ) (clauses : List (List SymbolicLit)) → AreGood n clauses → (n ≤ 2048 → AreFit n clauses) × AreSigned clauses
both_parts n [] h = ((λ few. tt), tt)
both_parts n (clause ∷ clauses) h =
    let rest = both_parts n clauses h.1 in
    let short = h.0.0.0 in (
      (λ few. ((omega (arith, short, few), h.0.0.1), rest.0 few)),
      (h.0.1, rest.1),
    )

-- the clauses are fit, and signed
pub signals_fit : (window : WindowForm) → length (points_of window) ≤ 2048 → AreFit (length (points_of window)) (signals_of window)
signals_fit window few = (both_parts (length (points_of window)) (signals_of window) (all_good window)).0 few

pub signals_signed : (window : WindowForm) → AreSigned (signals_of window)
signals_signed window = (both_parts (length (points_of window)) (signals_of window) (all_good window)).1
