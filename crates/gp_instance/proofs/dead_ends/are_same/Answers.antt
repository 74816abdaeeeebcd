use Rattle.std.proofs.Common.{◌∙◌, sym}
use Rattle.gp_instance.proofs.SameLeft.{same_left}
use Rattle.gp_instance.proofs.dead_ends.are_same.Goals as goal

pub returns-then-ones-others : goal.returns-then-ones-others
returns-then-ones-others c told = same_left c.args.ones.now c.args.others.now c.if-ones-others.true (sym c.have_same_events.ensures ∙ told)
