use Rattle.std.proofs.Common.{refl}
use Rattle.gp_workers.proofs.worker.Worker.new.Goals as goal

pub new-requires-clause-valid : goal.new-requires-clause-valid
new-requires-clause-valid c = c.requires.valid

pub new-requires-clause-solvable : goal.new-requires-clause-solvable
new-requires-clause-solvable c = c.requires.solvable

pub returns-clause-problem : goal.returns-clause-problem
returns-clause-problem c = c.in_ok-search.ensures.problem

pub returns-clause-number : goal.returns-clause-number
returns-clause-number c = refl

pub returns-clause-fresh : goal.returns-clause-fresh
returns-clause-fresh c = record { log = c.in_ok-search.ensures.log; turns = c.new-2.ensures.items }
