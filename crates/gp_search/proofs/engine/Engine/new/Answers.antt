use Rattle.std.proofs.Common.{refl}
use Rattle.gp_search.proofs.Turns.{new_idle}
use Rattle.gp_search.proofs.engine.Engine.new.Goals as goal

pub returns-in-Ok-clause-idle : goal.returns-in-Ok-clause-idle
returns-in-Ok-clause-idle c = new_idle c.args.problem.now _ c.requires.valid c.new.ensures.items c.new-in-Ok.ensures.items c.in_ok-solver.ensures c.in-Ok.ensures.graph c.in-Ok.ensures.bare
    (record { points = c.in-Ok.ensures.points; edges = c.in-Ok.ensures.edges; lasting = c.in-Ok.ensures.lasting }) refl
