-- The clauses of a variable, of its writes alone.
use Rattle.std.proofs.Common.{ℕ, suc, ◌≡◌, ap, sym, ◌∙◌, refl, subst, List, [], ◌∷◌, ◌++◌, Bool, true, false, not, arith, length}
use Rattle.std.specs.Prelude.{ℤ, ◌==◌, ◌&&◌, ◌||◌, Contains, cond, filter, flat_map, map}
use Rattle.std.specs.List.{list_any}
use Rattle.std.specs.Ordering.{int_eq}
use Rattle.std.specs.Str.{bytes_eq}
use Rattle.std.proofs.lemmas.Bool.{ne_eqb}
use Rattle.std.proofs.lemmas.List.Elements.{filter_agree}
use Rattle.gp_base.specs.FilterLaws.{contains_from_filter, filter-filter, flat_map-filter, flat_map_agree}
use Rattle.gp_base.specs.ListLaws.{here, there}
use Rattle.gp_window.specs.WindowForm.{start_value, WindowForm}
use Rattle.gp_constraint.specs.declared.action.Action.{Action}
use Rattle.gp_constraint.specs.declared.action.Action.TheVariants.{Write}
use Rattle.gp_constraint.specs.declared.point.Point.{Point}
use Rattle.gp_constraint.specs.declared.symbol.SymbolicLit.{SymbolicLit}
use Rattle.gp_constraint.specs.Tables.{writes_to}
use Rattle.gp_constraint.specs.Terms.{simplified}
use Rattle.gp_link.specs.LinkClauses.{are_rivals, choices_in, comes_last, ends_at, kept_before, last, linked_at, stays, writes_value}
use Rattle.gp_link.proofs.Written.{value_is}

-- the writes of a variable
abbrev pub writes_of : List Point → List ℕ → List Point
writes_of points variable = filter (λ p. writes_to variable p.action) points

-- some element passes a test exactly where a filter keeps one
any_kept : (test : Point → Bool) (points : List Point) → list_any test points ≡ not (length (filter test points) == 0)
any_kept test [] = refl
any_kept test (p ∷ points) =
    elim (test p) as (λ b. (b || list_any test points) ≡ not (length (cond b (p ∷ filter test points) (filter test points)) == 0)) [
      | true ↦ sym (ap not (ne_eqb (suc (length (filter test points))) 0 (λ e. omega (arith, e))))
      | false ↦ any_kept test points
    ]

-- two functions that agree at the elements of a list
alike_each : (f g : Point → List (List SymbolicLit)) (points : List Point) → ((p : Point) → Contains points p → f p ≡ g p) → flat_map f points ≡ flat_map g points
alike_each f g [] same = refl
alike_each f g (p ∷ points) same =
    ap (λ first. first ++ flat_map f points) (same p (here _ _)) ∙ ap (λ rest. g p ++ rest) (alike_each f g points (λ q i. same q (there _ _ _ i)))

and_twice : (a b : Bool) → (a && (a && b)) ≡ (a && b)
and_twice true b = refl
and_twice false b = refl

-- what writes a value to the variable writes it, and what does not write it is no rival
value_on : (variable : List ℕ) (value : ℤ) (does : Action) → (writes_to variable does && writes_value variable value does) ≡ writes_value variable value does
value_on variable value (Write name found) = and_twice (bytes_eq name variable) (int_eq found value)
value_on variable value _ = refl

rival_off : (variable : List ℕ) (value : ℤ) (does : Action) → writes_to variable does ≡ false → are_rivals (Write variable value) does ≡ false
rival_off variable value (Write name found) e = rw e refl
rival_off variable value _ e = refl

kept_off : (variable : List ℕ) (value : ℤ) (w other : Point) → w.action ≡ Write variable value → writes_to variable other.action ≡ false → kept_before w other ≡ []
kept_off variable value w other is e =
    let off : are_rivals w.action other.action ≡ false = subst (λ does. are_rivals does other.action ≡ false) (sym is) (rival_off variable value other.action e) in
    rw off refl

kept_where : (variable : List ℕ) (value : ℤ) (w other : Point) (b : Bool) → w.action ≡ Write variable value → writes_to variable other.action ≡ b
    → cond b (kept_before w other) [] ≡ kept_before w other
kept_where variable value w other true is e = refl
kept_where variable value w other false is e = sym (kept_off variable value w other is e)

choices_alone : (points : List Point) (variable : List ℕ) (value : ℤ) → choices_in (writes_of points variable) variable value ≡ choices_in points variable value
choices_alone points variable value =
    filter-filter (λ (p : Point). writes_to variable p.action) (λ (w : Point). writes_value variable value w.action) points
    ∙ filter_agree (λ (p : Point). writes_to variable p.action && writes_value variable value p.action) (λ (w : Point). writes_value variable value w.action)
    (λ (p : Point). value_on variable value p.action) points

last_alone : (points : List Point) (variable : List ℕ) (value : ℤ) (w : Point) → w.action ≡ Write variable value → comes_last (writes_of points variable) w ≡ comes_last points w
last_alone points variable value w is =
    flat_map-filter (kept_before w) (λ (p : Point). writes_to variable p.action) points
    ∙ flat_map_agree (λ (p : Point). cond (writes_to variable p.action) (kept_before w p) []) (kept_before w)
    (λ (p : Point). kept_where variable value w p (writes_to variable p.action) is refl) points

ends_alone : (points : List Point) (variable : List ℕ) (value : ℤ) → ends_at (writes_of points variable) variable value ≡ ends_at points variable value
ends_alone points variable value =
    let choices : List Point = choices_in points variable value in
    ap (λ (some : List Point). simplified (map (λ (w : Point). last w true) some) ++ flat_map (comes_last (writes_of points variable)) some) (choices_alone points variable value)
    ∙ ap (λ (rest : List (List SymbolicLit)). simplified (map (λ (w : Point). last w true) choices) ++ rest)
    (alike_each (comes_last (writes_of points variable)) (comes_last points) choices (λ w i.
    last_alone points variable value w (value_is variable value w.action (contains_from_filter (λ (w : Point). writes_value variable value w.action) points w i).1)))

-- the clauses of a variable that has no writes, and of one that has some
pub unwritten_alone : (window next : WindowForm) (points writes : List Point) (variable : List ℕ) → writes ≡ writes_of points variable → (length writes == 0) ≡ true
    → stays window next variable ≡ linked_at window next points variable
unwritten_alone window next points writes variable is empty =
    let none : list_any (λ (p : Point). writes_to variable p.action) points ≡ false =
    any_kept (λ (p : Point). writes_to variable p.action) points ∙ ap (λ (some : List Point). not (length some == 0)) (sym is) ∙ ap not empty in
    rw none refl

pub written_alone : (window next : WindowForm) (points writes : List Point) (variable : List ℕ) → writes ≡ writes_of points variable → (length writes == 0) ≡ false
    → ends_at writes variable (start_value next variable) ≡ linked_at window next points variable
written_alone window next points writes variable is filled =
    let some : list_any (λ (p : Point). writes_to variable p.action) points ≡ true =
    any_kept (λ (p : Point). writes_to variable p.action) points ∙ ap (λ (some : List Point). not (length some == 0)) (sym is) ∙ ap not filled in
    let own : ends_at writes variable (start_value next variable) ≡ ends_at points variable (start_value next variable) =
    ap (λ (some : List Point). ends_at some variable (start_value next variable)) is ∙ ends_alone points variable (start_value next variable) in
    rw some own
