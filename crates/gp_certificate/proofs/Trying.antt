-- Where what is derived was made true, a negative cycle with its bounds is all that refutes.
use Rattle.std.proofs.Common.{◌≡◌, Option, None, Some, List, ◌++◌, All, Contains, ◌↔◌, inl, inr, refl, ap, sym, ◌∙◌}
use Rattle.std.specs.List.{slice_get}
use Rattle.std.proofs.lemmas.List.Elements.{All-contains, All-weaker}
use Rattle.std.proofs.lemmas.Option.{none-some}
use Rattle.gp_clause.specs.declared.edge.Edge.{Edge}
use Rattle.gp_clause.specs.declared.kind.Kind.{Kind}
use Rattle.gp_clause.specs.declared.lit.Lit.{Lit}
use Rattle.gp_clause.specs.Closure.{Derived, ClosureIsLeast, IsTrueIn}
use Rattle.gp_clause.specs.Closure.Derived.{given}
use Rattle.gp_clause.specs.Kind.{bound_of, bound_at, bound_in}
use Rattle.gp_clause.specs.Walk.{HasNegativeCycle}
use Rattle.gp_certificate.specs.declared.assignment.Assignment.{Assignment}
use Rattle.gp_certificate.specs.Assignment.{value_of, IsOpen, IsKept, IsClosing}
use Rattle.gp_certificate.specs.Places.{bounds_at}
use Rattle.gp_certificate.specs.Step.{IsDerivedBound, LeadsToConflict}
use Rattle.gp_certificate.proofs.BoundsAt.{cycle_beside, bound_among, bounds_from}
use Rattle.gp_base.specs.ListLaws.{all_from_contains}
use Rattle.gp_certificate.proofs.Standing.{leaves_none}

-- a start is on the way to its closure
pub closing_start : (clauses : List (List Lit)) (assignment : Assignment) → IsKept assignment → IsClosing assignment.trail.items clauses assignment
closing_start clauses assignment kept = record {
  kept = kept;
  derived = all_from_contains (Derived assignment.trail.items clauses) assignment.trail.items (λ lit is. given lit is);
  starts = all_from_contains (Contains assignment.trail.items) assignment.trail.items (λ lit is. is);
}

-- what a bound of a literal is made of
bound_parts : (P : Type 0) (kinds : List Kind) (lit : Lit) (edge : Edge) → bound_at kinds lit ≡ Some edge
    → ((kind : Kind) → slice_get kinds lit.variable ≡ Some kind → bound_of kind lit.positive ≡ Some edge → P) → P
bound_parts P kinds lit edge some use_parts = at (slice_get kinds lit.variable) refl
  where
    at : (o : Option Kind) → slice_get kinds lit.variable ≡ o → P
    at None none = absurd (none-some edge (sym (ap (λ o. bound_in o lit.positive) none) ∙ some))
    at (Some kind) is = use_parts kind is (sym (ap (λ o. bound_in o lit.positive) is) ∙ some)

derived_bound : (start : List Lit) (clauses : List (List Lit)) (kinds : List Kind) (assignment : Assignment) → IsClosing start clauses assignment
    → (lit : Lit) (edge : Edge) → Contains assignment.trail.items lit → bound_at kinds lit ≡ Some edge → IsDerivedBound kinds clauses start edge
derived_bound start clauses kinds assignment closing lit edge is some =
    bound_parts (IsDerivedBound kinds clauses start edge) kinds lit edge some
    (λ kind at bound. (lit, kind, All-contains (Derived start clauses) assignment.trail.items lit closing.derived is, at, bound))

-- a cycle with the bounds of what is true refutes
pub trail_leads : (edges : List Edge) (kinds : List Kind) (start : List Lit) (clauses : List (List Lit)) (assignment : Assignment) → IsClosing start clauses assignment
    → HasNegativeCycle (edges ++ bounds_at kinds assignment.trail.items) → LeadsToConflict edges kinds clauses start
trail_leads edges kinds start clauses assignment closing cycle =
    inr (bounds_at kinds assignment.trail.items, bounds_from (IsDerivedBound kinds clauses start) kinds assignment.trail.items (derived_bound start clauses kinds assignment closing), cycle)

-- where all clauses are open, a cycle with the bounds of what is true is all that refutes
pub closed_refutes : ClosureIsLeast → (edges : List Edge) (kinds : List Kind) (start : List Lit) (clauses : List (List Lit)) (assignment : Assignment) → IsClosing start clauses assignment
    → All (IsOpen assignment.values.items) clauses → HasNegativeCycle (edges ++ bounds_at kinds assignment.trail.items) ↔ LeadsToConflict edges kinds clauses start
closed_refutes least edges kinds start clauses assignment closing all = (
  trail_leads edges kinds start clauses assignment closing,
  from,
)
  where
    starts : All (IsTrueIn (value_of assignment.values.items)) start
    starts = All-weaker (Contains assignment.trail.items) (IsTrueIn (value_of assignment.values.items))
        (λ lit is. All-contains (IsTrueIn (value_of assignment.values.items)) assignment.trail.items lit closing.kept.noted is) start closing.starts

    among : (edge : Edge) → IsDerivedBound kinds clauses start edge → Contains (bounds_at kinds assignment.trail.items) edge
    among edge (lit, kind, derived, at, bound) =
        let holds : IsTrueIn (value_of assignment.values.items) lit = least.true_too start clauses (value_of assignment.values.items) starts (leaves_none assignment.values.items clauses all) lit derived in
        bound_among kinds assignment.trail.items lit edge (closing.kept.trailed lit holds) (ap (λ o. bound_in o lit.positive) at ∙ bound)

    from : LeadsToConflict edges kinds clauses start → HasNegativeCycle (edges ++ bounds_at kinds assignment.trail.items)
    from (inl conflict) = absurd (least.no_conflict start clauses (value_of assignment.values.items) starts (leaves_none assignment.values.items clauses all) conflict)
    from (inr (bounds, derived, cycle)) =
        cycle_beside edges bounds (bounds_at kinds assignment.trail.items) (All-weaker (IsDerivedBound kinds clauses start) (Contains (bounds_at kinds assignment.trail.items)) among bounds derived) cycle
