use Rattle.std.proofs.Common.{◌∙◌, sym}
use Rattle.gp_notify.proofs.Kept.{empty_from, still_fits}
use Rattle.gp_notify.proofs.notify_problem.extension_of.Goals as goal

pub returns-then-is_empty-clause-fits : goal.returns-then-is_empty-clause-fits
returns-then-is_empty-clause-fits c =
    still_fits c.args.encoded.now c.window.ensures.encodable (sym c.requires.wakes_are ∙ empty_from c.args.tables.now.wakes (sym c.is_empty.ensures ∙ c.if-is_empty.true))
