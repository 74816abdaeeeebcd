use Rattle.std.proofs.Common.{◌<◌, ◌-◌, length, ap, ◌∙◌, arith}
use Rattle.gp_clause.specs.Lit.{opposite}
use Rattle.gp_certificate.proofs.Propagating.{rise_fits, rise_exact, read_at}
use Rattle.gp_certificate.proofs.assignment.Assignment.rise.Goals as goal

pub rise-requires : goal.rise-requires
rise-requires c =
    let last = c.args.self.now.cursor - 1 in
    let within : last < length c.args.self.now.trail.items = omega (arith, c.requires.some, c.requires.exact.within) in
    rise_fits c.args.self.now c.args.loaded.now last c.negated.result c.requires.kept (omega (arith, c.requires.some)) c.requires.exact
    (c.negated.ensures ∙ ap opposite (read_at c.args.self.now.trail.items last c.index.result.now within c.index.ensures))

pub returns-clause-exact : goal.returns-clause-exact
returns-clause-exact c =
    let last = c.args.self.now.cursor - 1 in
    let within : last < length c.args.self.now.trail.items = omega (arith, c.requires.some, c.requires.exact.within) in
    rise_exact c.args.self.now c.args.loaded.now c.rise.new.self last c.negated.result c.requires.kept (omega (arith, c.requires.some)) c.requires.exact
    (c.negated.ensures ∙ ap opposite (read_at c.args.self.now.trail.items last c.index.result.now within c.index.ensures)) c.rise.ensures.same c.rise.ensures.size c.rise.ensures.more
