-- Before the first event nothing is kept.
use Rattle.std.proofs.Common.{[], subst, sym}
use Rattle.gp_story.specs.declared.past.Past.{Past}
use Rattle.gp_story.specs.Past.{Recalls}
use Rattle.gp_story.proofs.Recalled.{recalls_none}
use Rattle.gp_story.proofs.telling.lines_of.Goals as goal

pub lines_along-lines-requires : goal.lines_along-lines-requires
lines_along-lines-requires c = subst (λ (past : Past). Recalls c.args.sharing.now [] past) (sym c.new-past.ensures) (recalls_none c.args.sharing.now)
