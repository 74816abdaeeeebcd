use Rattle.std.proofs.Common.{subst}
use Rattle.gp_difference.specs.Graph.{HasPlaces}
use Rattle.gp_difference.proofs.GraphLemmas.{sound_feasible}
use Rattle.gp_difference.proofs.graph.Graph.places.Goals as goal

pub returns-clause-feasible : goal.returns-clause-feasible
returns-clause-feasible c = subst (λ g. HasPlaces g) c.self.view_is (sound_feasible c.self.inside c.self.invariant)
