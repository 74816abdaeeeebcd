-- The executed events of an answer to the problem of a window and the next, by their places, link the two where they are feasible.
use Rattle.std.proofs.Common.{◌≡◌, ◌⊎◌, sym, ◌∙◌, inl, inr, List, [], ◌∷◌, arith}
use Rattle.std.specs.Prelude.{ℤ, ◌<ℤ◌}
use Rattle.std.proofs.lemmas.Int.{ints}
use Rattle.gp_base.specs.ListLaws.{Pairwise, pairwise_from_pairs, recursion_at, recursion_from_each}
use Rattle.gp_clause.specs.declared.valuation.Valuation.{Valuation}
use Rattle.gp_window.specs.declared.schedule.EventId.{EventId}
use Rattle.gp_window.specs.WindowForm.{WindowForm}
use Rattle.gp_replay.specs.Start.{BeginsAsWindow}
use Rattle.gp_replay.specs.Value.{ValuesAreLastWrites}
use Rattle.gp_constraint.specs.declared.symbol.SymbolicLit.{SymbolicLit}
use Rattle.gp_constraint.specs.ByPlace.{ComesBefore, IsByPlace, place_in}
use Rattle.gp_constraint.specs.Extended.{ExtendedMeans, ExtensionsMean, names_with}
use Rattle.gp_constraint.specs.PointLaws.{event_below}
use Rattle.gp_constraint.specs.Points.{number_in}
use Rattle.gp_constraint.specs.SymbolTruth.{read_by}
use Rattle.gp_link.specs.LinkClauses.{link_clauses}
use Rattle.gp_link.specs.LinkLaws.{LinksAreSound}
use Rattle.gp_link.proofs.Sound.{FollowsPlaces, links}

-- no event that comes before another has a greater place
not_turned : (a b : ℤ) → (a <ℤ b) ⊎ (a ≡ b) → b <ℤ a → ⊥
not_turned a b (inl less) back = omega (arith, ints, less, back)
not_turned a b (inr same) back = omega (arith, ints, same, back)

comes_before : (window : WindowForm) (v : Valuation) (one other : EventId) → ComesBefore window v one other
    → place_in window v other <ℤ place_in window v one → ⊥
comes_before window v one other (inl less) = not_turned (place_in window v one) (place_in window v other) (inl less)
comes_before window v one other (inr tie) = not_turned (place_in window v one) (place_in window v other) (inr tie.0)

sorted_places : (window : WindowForm) (v : Valuation) (ids : List EventId) → Pairwise (ComesBefore window v) ids
    → Pairwise (λ one other. place_in window v other <ℤ place_in window v one → ⊥) ids
sorted_places window v [] pairs = tt
sorted_places window v (id ∷ ids) pairs = (
  recursion_from_each (λ other. place_in window v other <ℤ place_in window v id → ⊥) ids
      (λ other i. comes_before window v id other (recursion_at (ComesBefore window v id) ids other pairs.0 i)),
  sorted_places window v ids pairs.1,
)

-- a schedule of the executed events by place follows the places
follows_places : (window : WindowForm) (more : List (List SymbolicLit)) (v : Valuation) (ids : List EventId) → ExtendedMeans window more v → IsByPlace window v ids
    → FollowsPlaces window (read_by (names_with window more) v) ids
follows_places window more v ids means by = record {
  all = λ id there does. by.all id (there, sym (means.points (number_in window id) (event_below window id there)) ∙ does);
  sorted = sorted_places window v ids (pairwise_from_pairs (ComesBefore window v) ids by.sorted);
}

pub sound : BeginsAsWindow → ValuesAreLastWrites → ExtensionsMean → LinksAreSound
sound begins lasts extend window next query v schedule is is_next meets by feasible =
    let more : List (List SymbolicLit) = link_clauses window next in
    let means = extend.answers window more query v meets in
    links window next (read_by (names_with window more) v) schedule (begins.values window is) (begins.values next is_next) means.base.edges lasts means.further
    (follows_places window more v schedule means by) feasible
