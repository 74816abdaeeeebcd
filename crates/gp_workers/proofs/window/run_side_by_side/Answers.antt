-- What each job gave is what the workers hand back.
use Rattle.std.proofs.Common.{◌∙◌}
use Rattle.gp_workers.proofs.CrewAlone.{same_if_ok}
use Rattle.gp_workers.proofs.SharedCrew.{as_many, crew_back}
use Rattle.gp_workers.proofs.window.run_side_by_side.Goals as goal

pub returns-clause-len : goal.returns-clause-len
returns-clause-len g c =
    same_if_ok _ _ c.in_order.result (λ crew is. as_many c.in_ok-handed.handed.items crew.items is ∙ c.in_ok-handed.ensures.len ∙ c.requires.few.1) c.in_order.ensures

pub returns-clause-back : goal.returns-clause-back
returns-clause-back g c =
    let load = c.args.load.now in
    same_if_ok _ _ c.in_order.result
    (λ crew is. crew_back load.tickets.now load.problem.now load.queries.now load.budget c.args.inboxes.now c.in_ok-handed.handed.items crew.items is c.in_ok-handed.ensures.done) c.in_order.ensures
