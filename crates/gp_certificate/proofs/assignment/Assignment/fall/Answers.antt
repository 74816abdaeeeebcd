use Rattle.std.proofs.Common.{ap, ◌∙◌}
use Rattle.gp_clause.specs.Lit.{opposite}
use Rattle.gp_certificate.proofs.Propagating.{fall_most, fall_exact, fall_on, fall_gives, read_at}
use Rattle.gp_certificate.proofs.assignment.Assignment.fall.Goals as goal

pub fall-requires : goal.fall-requires
fall-requires c =
    fall_most c.args.self.now c.args.loaded.now c.negated-fallen.result c.requires.kept c.requires.more c.requires.exact
    (c.negated-fallen.ensures ∙ ap opposite (read_at c.args.self.now.trail.items c.args.self.now.cursor c.index.result.now c.requires.more c.index.ensures))

pub returns-clause-on : goal.returns-clause-on
returns-clause-on c =
    let is = c.negated-fallen.ensures ∙ ap opposite (read_at c.args.self.now.trail.items c.args.self.now.cursor c.index.result.now c.requires.more c.index.ensures) in
    let counts = fall_exact c.args.self.now c.args.loaded.now c.fall.new.self c.negated-fallen.result c.requires.kept c.requires.more c.requires.exact is c.fall.ensures.same c.fall.ensures.size c.fall.ensures.less in
    fall_on c.args.self.now c.look_all.new.self c.args.loaded.now c.fall.new.self c.requires.kept c.requires.more c.fall.ensures.same counts c.look_all.ensures.extends c.look_all.ensures.closing c.look_all.ensures.cursor

pub returns-clause-gives : goal.returns-clause-gives
returns-clause-gives c =
    let is = c.negated-fallen.ensures ∙ ap opposite (read_at c.args.self.now.trail.items c.args.self.now.cursor c.index.result.now c.requires.more c.index.ensures) in
    let counts = fall_exact c.args.self.now c.args.loaded.now c.fall.new.self c.negated-fallen.result c.requires.kept c.requires.more c.requires.exact is c.fall.ensures.same c.fall.ensures.size c.fall.ensures.less in
    fall_gives c.args.self.now c.look_all.new.self c.args.loaded.now c.fall.new.self c.negated-fallen.result c.row.result.now c.look_all.result c.requires.kept c.requires.more is c.fall.ensures.same counts c.row.ensures
    c.look_all.ensures.extends c.look_all.ensures.cursor c.requires.done c.look_all.ensures.gives
