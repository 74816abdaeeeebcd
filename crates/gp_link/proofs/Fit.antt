-- The clauses of a window and the next are short, their kinds are valid, and no symbol has both signs in one.
use Rattle.std.proofs.Common.{ℕ, ◌≡◌, ◌≢◌, ◌≤◌, ap, sym, ◌∙◌, refl, inl, inr, List, [], ◌∷◌, Bool, true, false, arith, eq-eqb, length}
use Rattle.std.specs.Prelude.{ℤ, ◌+◌, ◌==◌, Contains, if◌then◌else◌, filter, flat_map, map, nat_lt}
use Rattle.std.specs.List.{AllByRecursion, list_any}
use Rattle.std.specs.Ordering.{int_eq}
use Rattle.std.proofs.lemmas.Bool.{cases_Bool, false≢true}
use Rattle.std.proofs.lemmas.List.{length-map}
use Rattle.gp_clause.specs.Problem.{IsValidKind}
use Rattle.gp_window.specs.WindowForm.{start_value, WindowForm}
use Rattle.gp_constraint.specs.declared.point.Point.{Point}
use Rattle.gp_constraint.specs.declared.symbol.Symbol.TheVariants.{Last, Order}
use Rattle.gp_constraint.specs.declared.symbol.SymbolicLit.{SymbolicLit}
use Rattle.gp_constraint.specs.declared.term.Term.{Term}
use Rattle.gp_constraint.specs.declared.term.Term.TheVariants.{Always, Never, Literal}
use Rattle.gp_constraint.specs.Extended.{AreFit}
use Rattle.gp_constraint.specs.FitLaws.{each_either, each_lit, each_unless, each_when, few_lits, OfLit}
use Rattle.gp_constraint.specs.Lasts.{is_last}
use Rattle.gp_base.specs.FilterLaws.{contains_from_filter}
use Rattle.gp_base.specs.ListLaws.{first_or_rest, here, nothing_in, Pairwise, recursion_append, recursion_flat_map}
use Rattle.gp_constraint.specs.PointLaws.{one_point, point_within}
use Rattle.gp_constraint.specs.Points.{points_of}
use Rattle.gp_constraint.specs.Signed.{Agree, AreSigned}
use Rattle.gp_constraint.specs.Symbols.{kind_of}
use Rattle.gp_constraint.specs.Tables.{writes_to}
use Rattle.gp_constraint.specs.Terms.{before, constant, executed, is_always, lit_of, literal, simplified}
use Rattle.gp_link.specs.LinkClauses.{are_rivals, choices_in, comes_last, ended_of, ends_at, kept_before, last, link_clauses, linked_at, stays, writes_value}
use Rattle.gp_link.specs.Variables.{variables_of}

-- a clause is not much longer than there are points, the kinds of its symbols are valid, and no symbol has both signs in it
abbrev IsGood : ℕ → List SymbolicLit → Type 0
IsGood n clause = ((length clause ≤ n + 4) × AllByRecursion (λ (lit : SymbolicLit). IsValidKind n (kind_of lit.symbol)) clause) × Pairwise Agree clause

abbrev AreGood : ℕ → List (List SymbolicLit) → Type 0
AreGood n clauses = AllByRecursion (IsGood n) clauses

abbrev IsGoodTerm : ℕ → Term → Type 0
IsGoodTerm n term = OfLit (λ (lit : SymbolicLit). IsValidKind n (kind_of lit.symbol)) term

good_clause : (n : ℕ) (terms : List Term) → length terms ≤ n + 4 → AllByRecursion (IsGoodTerm n) terms → Pairwise Agree (flat_map lit_of terms) → AreGood n (simplified terms)
good_clause n terms short h signed =
    let few = few_lits terms in
    let valid = each_lit (λ (lit : SymbolicLit). IsValidKind n (kind_of lit.symbol)) terms h in
    each_unless (IsGood n) (list_any is_always terms) (flat_map lit_of terms ∷ []) (((omega (arith, few, short), valid), signed), tt)

-- an order of two points is of a valid kind, and has another symbol than that a write is the last
abbrev IsOrder : ℕ → Term → Type 0
IsOrder w term = (other : SymbolicLit) → Contains (lit_of term) other → Agree (record { symbol = Last w; positive = false }) other

order_constant : (n w : ℕ) (b : Bool) → IsGoodTerm n (constant b) × IsOrder w (constant b)
order_constant n w true = (tt, λ other i. absurd (nothing_in _ i))
order_constant n w false = (tt, λ other i. absurd (nothing_in _ i))

order_differs : (w a b : ℕ) (positive : Bool) (other : SymbolicLit) → Contains (lit_of (literal (Order a b) positive)) other
    → Agree (record { symbol = Last w; positive = false }) other
order_differs w a b positive other i is =
    elim (first_or_rest (record { symbol = Order a b; positive = positive }) [] other i) [
      | inl same ↦ let bad : Last w ≡ Order a b = is ∙ sym (ap (λ (l : SymbolicLit). l.symbol) same) in absurd (cc)
      | inr none ↦ absurd (nothing_in _ none)
    ]

order_literal : (n w a b : ℕ) (positive : Bool) → IsValidKind n (kind_of (Order a b)) → IsGoodTerm n (literal (Order a b) positive) × IsOrder w (literal (Order a b) positive)
order_literal n w a b positive valid = (valid, order_differs w a b positive)

order_if : (n w : ℕ) (b : Bool) (x y : Term) → (b ≡ true → IsGoodTerm n x × IsOrder w x) → (b ≡ false → IsGoodTerm n y × IsOrder w y)
    → IsGoodTerm n (if b then x else y) × IsOrder w (if b then x else y)
order_if n w true x y h k = h refl
order_if n w false x y h k = k refl

order_good : (window : WindowForm) (w : ℕ) (e f : Point) → Contains (points_of window) e → Contains (points_of window) f
    → IsGoodTerm (length (points_of window)) (before e f) × IsOrder w (before e f)
order_good window w e f i j =
    let n : ℕ = length (points_of window) in
    order_if n w (e.id.thread == f.id.thread) (constant (nat_lt e.id.index f.id.index))
    (if nat_lt e.number f.number then literal (Order e.number f.number) true else literal (Order f.number e.number) false)
    (λ same. order_constant n w (nat_lt e.id.index f.id.index))
    (λ other.
    let differ : e.number ≢ f.number = λ numbers.
    false≢true (sym other ∙ eq-eqb e.id.thread f.id.thread (ap (λ (p : Point). p.id.thread) (one_point window e f i j numbers))) in
    order_if n w (nat_lt e.number f.number) (literal (Order e.number f.number) true) (literal (Order f.number e.number) false)
    (λ less. order_literal n w e.number f.number true (point_within window e i, point_within window f j, differ))
    (λ more. order_literal n w f.number e.number false (point_within window f j, point_within window e i, λ same. differ (sym same))))

-- all literals of the choices are positive
abbrev ArePositive : List SymbolicLit → Type 0
ArePositive lits = AllByRecursion (λ (lit : SymbolicLit). lit.positive ≡ true) lits

positive_rest : (lit : SymbolicLit) (lits : List SymbolicLit) → lit.positive ≡ true → ArePositive lits → AllByRecursion (Agree lit) lits
positive_rest lit [] own all = tt
positive_rest lit (other ∷ lits) own all = ((λ same. own ∙ sym all.0), positive_rest lit lits own all.1)

positive_agree : (lits : List SymbolicLit) → ArePositive lits → Pairwise Agree lits
positive_agree [] all = tt
positive_agree (lit ∷ lits) all = (positive_rest lit lits all.0 all.1, positive_agree lits all.1)

-- the literals of choices
choices_good : (n : ℕ) (choices : List Point) → AllByRecursion (IsGoodTerm n) (map (λ (w : Point). last w true) choices)
choices_good n [] = tt
choices_good n (w ∷ choices) = (tt, choices_good n choices)

choices_positive : (choices : List Point) → ArePositive (flat_map lit_of (map (λ (w : Point). last w true) choices))
choices_positive [] = tt
choices_positive (w ∷ choices) = (refl, choices_positive choices)

choices_signed : (choices : List Point) → Pairwise Agree (flat_map lit_of (map (λ (w : Point). last w true) choices))
choices_signed choices = positive_agree (flat_map lit_of (map (λ (w : Point). last w true) choices)) (choices_positive choices)

-- a filter keeps no more than there is
filter_shorter : (test : Point → Bool) (points : List Point) → length (filter test points) ≤ length points
filter_shorter test [] = omega arith
filter_shorter test (p ∷ points) =
    let rest = filter_shorter test points in
    elim (cases_Bool (test p)) [
      | inl passes ↦ rw passes (omega (arith, rest))
      | inr fails ↦ rw fails (omega (arith, rest))
    ]

pair_signed : (w : ℕ) (term : Term) → IsOrder w term → Pairwise Agree (record { symbol = Last w; positive = false } ∷ flat_map lit_of (term ∷ []))
pair_signed w Always order = (tt, tt)
pair_signed w Never order = (tt, tt)
pair_signed w (Literal lit) order = ((order lit (here lit []), tt), (tt, tt))

module _ (window next : WindowForm) where
  abbrev points : List Point
  points = points_of window

  abbrev n : ℕ
  n = length (points_of window)

  ended_good : (p : Point) → AreGood n (ended_of window p)
  ended_good p = each_when (IsGood n) (is_last window p) (simplified (executed p true ∷ [])) (good_clause n (executed p true ∷ []) (omega arith) (tt, tt) (tt, tt))

  kept_good : (w other : Point) → Contains points w → Contains points other → AreGood n (kept_before w other)
  kept_good w other i j =
      let order = order_good window w.number other w j i in
      each_when (IsGood n) (are_rivals w.action other.action) (simplified (last w false ∷ before other w ∷ []))
      (good_clause n (last w false ∷ before other w ∷ []) (omega arith) (tt, (order.0, tt)) (pair_signed w.number (before other w) order.1))

  -- no more choices than points
  few_choices : (variable : List ℕ) (value : ℤ) → length (map (λ (w : Point). last w true) (choices_in points variable value)) ≤ n + 4
  few_choices variable value =
      let same = length-map (choices_in points variable value) (λ (w : Point). last w true) in
      let few = filter_shorter (λ (w : Point). writes_value variable value w.action) points in
      omega (arith, same, few)

  ends_good : (variable : List ℕ) (value : ℤ) → AreGood n (ends_at points variable value)
  ends_good variable value =
      let choices : List Point = choices_in points variable value in
      recursion_append (IsGood n) (simplified (map (λ (w : Point). last w true) choices)) (flat_map (comes_last points) choices)
      (good_clause n (map (λ (w : Point). last w true) choices) (few_choices variable value) (choices_good n choices) (choices_signed choices))
      (recursion_flat_map (IsGood n) (comes_last points) choices (λ w i.
      let own = (contains_from_filter (λ (w : Point). writes_value variable value w.action) points w i).0 in
      recursion_flat_map (IsGood n) (kept_before w) points (λ other j. kept_good w other own j)))

  variable_good : (variable : List ℕ) → AreGood n (linked_at window next points variable)
  variable_good variable =
      each_either (IsGood n) (list_any (λ (p : Point). writes_to variable p.action) points) (ends_at points variable (start_value next variable)) (stays window next variable)
      (ends_good variable (start_value next variable))
      (each_unless (IsGood n) (int_eq (start_value window variable) (start_value next variable)) ([] ∷ []) (((omega arith, tt), tt), tt))

  all_good : AreGood n (link_clauses window next)
  all_good =
      recursion_append (IsGood n) (flat_map (ended_of window) points) (flat_map (linked_at window next points) (variables_of window next points))
      (recursion_flat_map (IsGood n) (ended_of window) points (λ p i. ended_good p))
      (recursion_flat_map (IsGood n) (linked_at window next points) (variables_of window next points) (λ variable i. variable_good variable))

both_parts : (n : ℕ) (clauses : List (List SymbolicLit)) → AreGood n clauses → (n ≤ 2048 → AreFit n clauses) × AreSigned clauses
both_parts n [] h = ((λ few. tt), tt)
both_parts n (clause ∷ clauses) h =
    let rest = both_parts n clauses h.1 in
    let short = h.0.0.0 in (
      (λ few. ((omega (arith, short, few), h.0.0.1), rest.0 few)),
      (h.0.1, rest.1),
    )

-- the clauses are fit, and signed
pub clauses_fit : (window next : WindowForm) → length (points_of window) ≤ 2048 → AreFit (length (points_of window)) (link_clauses window next)
clauses_fit window next few = (both_parts (length (points_of window)) (link_clauses window next) (all_good window next)).0 few

pub clauses_signed : (window next : WindowForm) → AreSigned (link_clauses window next)
clauses_signed window next = (both_parts (length (points_of window)) (link_clauses window next) (all_good window next)).1
