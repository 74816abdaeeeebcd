-- The last of the lines tells whether one more goes on with them.
use Rattle.std.proofs.Common.{◌≡◌, ◌∙◌, false, sym}
use Rattle.std.proofs.lemmas.Option.{MatchOption-at_none, MatchOption-at_some}
use Rattle.gp_story.specs.declared.story.StoryLine.{StoryLine}
use Rattle.gp_story.specs.Folding.{goes_on}
use Rattle.gp_story.specs.Parts.{stand_together}
use Rattle.gp_story.proofs.Folded.{goes_on_last}
use Rattle.gp_story.proofs.folding.goes_on.Goals as goal

pub returns-in-Some : goal.returns-in-Some
returns-in-Some c =
    c.stand_together.ensures
    ∙ sym (MatchOption-at_some (goes_on c.args.lines.now c.args.line.now ≡ false) (λ (last : StoryLine). goes_on c.args.lines.now c.args.line.now ≡ stand_together last c.args.line.now)
    c.in-Some.last.now (sym c.in-Some.ensures.value) (goes_on_last c.args.lines.now c.args.line.now))

pub returns-in-None : goal.returns-in-None
returns-in-None c =
    sym (MatchOption-at_none (goes_on c.args.lines.now c.args.line.now ≡ false) (λ (last : StoryLine). goes_on c.args.lines.now c.args.line.now ≡ stand_together last c.args.line.now)
    (sym c.in-None.ensures.value) (goes_on_last c.args.lines.now c.args.line.now))
