use Rattle.std.proofs.Common.{rules, ◌≡◌}
use Rattle.gp_certificate.proofs.Propagating.{begin_gives}
use Rattle.gp_certificate.proofs.assignment.Assignment.begin.Goals as goal

pub returns-clause-gives : goal.returns-clause-gives
returns-clause-gives c =
    let none : c.args.self.now.cursor ≡ 0 = search rules in
    begin_gives c.args.loaded.now c.args.self.now c.look_all.new.self c.short.result.now c.look_all.result none c.requires.exact c.short.ensures c.look_all.ensures.gives
