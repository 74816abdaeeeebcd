use Rattle.std.proofs.Common.{◌≡◌, refl, ap, List, ◌+◌, length, arith}
use Rattle.gp_derivation.specs.declared.log.LogEntry.{LogEntry}
use Rattle.gp_search.proofs.Few.{few_learned}
use Rattle.gp_search.proofs.Running.{used_up}
use Rattle.gp_search.proofs.engine.Engine.conclude.Goals as goal

pub returns-in-Conflict-clause-verdict : goal.returns-in-Conflict-clause-verdict
returns-in-Conflict-clause-verdict c =
    used_up c.args.asked.now.problem.now c.args.asked.now.query.now c.args.budget c.args.self.now.begins c.args.self.now.learned c.descend.new.self c.descend.new.self.learned c.len.result c.descend.ensures.turning
    c.descend.ensures.same.begins c.descend.ensures.same.learned refl (omega (arith, c.len.ensures)) (omega (arith, ap (λ (es : List LogEntry). length es) c.descend.ensures.same.log, c.requires.learned))

pub returns-in-Conflict-clause-enough : goal.returns-in-Conflict-clause-enough
returns-in-Conflict-clause-enough c = λ enough.
    let counted : length c.descend.new.self.log.items ≡ c.descend.new.self.learned + c.args.budget =
    omega (arith, ap (λ (es : List LogEntry). length es) c.descend.ensures.same.log, c.descend.ensures.same.learned, c.requires.learned) in
    omega (arith, enough, few_learned c.args.asked.now.problem.now c.args.asked.now.query.now c.descend.new.self c.args.budget c.clauses_are_few.ensures c.descend.ensures.turning counted)
