use Rattle.std.proofs.Common.{◌∙◌}
use Rattle.gp_search.proofs.Conflicts.{false_conflict}
use Rattle.gp_search.proofs.engine.Engine.false_clause.Goals as goal

pub returns : goal.returns
returns c =
    false_conflict c.args.asked.now.problem.now c.args.asked.now.query.now c.args.self.now c.args.number c.in_ok-from_slice.field-0.items c.requires.turning c.requires.conflict
    (c.in_ok-from_slice.ensures.items ∙ c.clause-lits.ensures.lits)
