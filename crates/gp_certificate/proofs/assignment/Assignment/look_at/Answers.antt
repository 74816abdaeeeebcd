use Rattle.std.proofs.Common.{rules, ◌<◌, length}
use Rattle.gp_certificate.proofs.Propagating.{look_gives, looked_within}
use Rattle.gp_certificate.proofs.assignment.Assignment.look_at.Goals as goal

pub returns-clause-closing : goal.returns-clause-closing
returns-clause-closing c =
    let within : c.args.number < length c.args.loaded.now.clauses = search rules in
    c.look.ensures.closing c.args.loaded.now.clauses (looked_within c.args.loaded.now.clauses c.args.number c.clause.result.now within c.clause.ensures)

pub returns-clause-gives : goal.returns-clause-gives
returns-clause-gives c =
    let within : c.args.number < length c.args.loaded.now.clauses = search rules in
    look_gives c.args.loaded.now c.args.self.now c.look.new.self c.args.number c.clause.result.now c.look.result within c.clause.ensures c.requires.kept c.look.ensures.gives
