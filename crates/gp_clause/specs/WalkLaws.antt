-- Along a walk places differ by no more than its weight.
use Rattle.std.proofs.Common.{ℕ, List, [], ◌∷◌, arith, ℤ, ◌+ℤ◌, ◌≤ℤ◌}
use Rattle.std.specs.List.{All}
use Rattle.std.proofs.lemmas.Int.{ints}
use Rattle.std.proofs.lemmas.List.Elements.{All-contains}
use Rattle.gp_clause.specs.declared.edge.Edge.{Edge}
use Rattle.gp_clause.specs.Edge.{Keeps}
use Rattle.gp_clause.specs.Walk.{IsWalk, weight, IsAmong, HasNegativeCycle}

-- along a walk that the places keep, they differ by no more than its weight
pub place_along : (place : ℕ → ℤ) (edges : List Edge) → All (Keeps place) edges → (from : ℕ) (walk : List Edge) (to : ℕ)
    → IsWalk from walk to → IsAmong edges walk → place from ≤ℤ (place to +ℤ weight walk)
place_along place edges keeps from [] to leads among = rw leads (omega (arith, ints))
place_along place edges keeps from (edge ∷ walk) to leads among =
    let first : Keeps place edge = All-contains (Keeps place) edges edge keeps among.0 in
    let rest : place edge.b ≤ℤ (place to +ℤ weight walk) = place_along place edges keeps edge.b walk to leads.1 among.1 in
    rw (← leads.0) (omega (arith, ints, first, rest))

-- places that keep every edge leave no negative cycle among them
pub none_negative : (place : ℕ → ℤ) (edges : List Edge) → All (Keeps place) edges → HasNegativeCycle edges → ⊥
none_negative place edges keeps (point, cycle, h) =
    omega (arith, ints, place_along place edges keeps point cycle point h.closed h.among, h.negative)
