use Rattle.std.proofs.Common.{subst, List}
use Rattle.gp_clause.specs.declared.lit.Lit.{Lit}
use Rattle.gp_sat.specs.Learning.{IsFirstPoint}
use Rattle.gp_search.proofs.Teaching.{studied}
use Rattle.gp_search.proofs.engine.Engine.study.Goals as goal

pub returns-in-Ok-clause-studied : goal.returns-in-Ok-clause-studied
returns-in-Ok-clause-studied c =
    let P : List Lit → Type 0 = λ ls. IsFirstPoint c.args.self.now.solver ls c.in_ok-clause.field-0 in
    studied c.args.asked.now.problem.now c.args.asked.now.query.now c.args.self.now c.args.conflict.now.lits.items c.args.conflict.now.number c.in_ok-clause.field-0 _ c.requires.turning c.requires.conflict
    (subst P c.as_slice.ensures.value c.in_ok-clause.ensures.learned) c.in-Ok.ensures
