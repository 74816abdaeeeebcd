use Rattle.std.proofs.Common.{subst, sym, ap, ◌∙◌, ◌≡◌, ℕ, ◌+◌, ◌<◌, List, [], ◌∷◌, ◌++◌, Err, length, take, map, get_or, arith}
use Rattle.std.specs.List.{Contains}
use Rattle.std.proofs.lemmas.List.{take_more, get_or-take, length-take, append-nil}
use Rattle.std.proofs.lemmas.Result.{err_from_is_err_and}
use Rattle.gp_clause.specs.declared.edge.Edge.{Edge}
use Rattle.gp_difference.specs.declared.fault.GraphFault.{GraphFault}
use Rattle.gp_difference.specs.declared.fault.GraphFault.TheVariants.{FixedCycle, Memory}
use Rattle.gp_clause.specs.Walk.{IsAmong, HasNegativeCycle}
use Rattle.gp_difference.specs.Bounds.{edges_of, untagged, no_edge}
use Rattle.gp_difference.specs.Graph.{GraphForm, FixGives, NewGives, all_edges}
use Rattle.gp_difference.specs.BoundsLaws.{edges_of-untagged}
use Rattle.gp_difference.proofs.graph.Graph.new.Goals as goal

-- what the first of the edges contain, the edges contain
contains_all : (count : ℕ) (edges : List Edge) (edge : Edge) → Contains (take count edges) edge → Contains edges edge
contains_all count edges edge c =
    let small : c.0 < count = omega (arith, c.1, length-take count edges) in
    (c.0, omega (arith, c.1, length-take count edges), sym (get_or-take count edges c.0 edge small) ∙ c.2)

among_all : (count : ℕ) (edges walk : List Edge) → IsAmong (take count edges) walk → IsAmong edges walk
among_all count edges [] among = tt
among_all count edges (edge ∷ walk) among = (contains_all count edges edge among.0, among_all count edges walk among.1)

cycle_of_all : (count : ℕ) (edges : List Edge) → HasNegativeCycle (take count edges) → HasNegativeCycle edges
cycle_of_all count edges (point, cycle, h) =
    (point, cycle, record { closed = h.closed; among = among_all count edges cycle h.among; negative = h.negative })

-- a cycle of the first edges with the next one is a cycle of the edges
next_cycle : (old : GraphForm) (edges : List Edge) (i : ℕ) → i < length edges → old.edges ≡ take i edges → old.kept ≡ [] →
    HasNegativeCycle (all_edges old ++ get_or edges i no_edge ∷ []) → HasNegativeCycle edges
next_cycle old edges i lt first none cycle =
    let all : all_edges old ≡ take i edges =
    ap (λ bs. edges_of (map untagged old.edges ++ bs)) none ∙ ap edges_of (append-nil (map untagged old.edges)) ∙ edges_of-untagged old.edges ∙ first in
    let more : all_edges old ++ get_or edges i no_edge ∷ [] ≡ take (i + 1) edges =
    ap (λ es. es ++ get_or edges i no_edge ∷ []) all ∙ sym (take_more edges i no_edge lt) in
    cycle_of_all (i + 1) edges (subst (λ es. HasNegativeCycle es) more cycle)

faults : (points : ℕ) (old new : GraphForm) (edges : List Edge) (i : ℕ) (fault : GraphFault) → i < length edges → old.edges ≡ take i edges → old.kept ≡ [] →
    FixGives old (get_or edges i no_edge) new (Err fault) → NewGives points edges (Err fault)
faults points old new edges i FixedCycle lt first none gives = next_cycle old edges i lt first none gives
faults points old new edges i Memory lt first none gives = tt

pub returns-in_err-fix : goal.returns-in_err-fix
returns-in_err-fix c =
    let p = err_from_is_err_and c.from_residual-in_err-fix.result c.from_residual-in_err-fix.ensures.1 in
    let lt : c.loop-edge.edge-index < length c.args.edges.now = omega arith in
    rw (p.1, p.2) (faults c.args.points c.loop-edge.graph c.fix.new.self c.args.edges.now c.loop-edge.edge-index c.in_err-fix.field-0.0 lt
    c.loop-edge.invariant.edges c.loop-edge.invariant.kept c.in_err-fix.ensures)
