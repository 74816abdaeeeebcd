-- All lines are folded.
use Rattle.std.proofs.Common.{◌≡◌, ◌∙◌, List, ap, sym}
use Rattle.std.proofs.lemmas.List.{drop_all}
use Rattle.std.proofs.lemmas.Result.{IfOk-weaker}
use Rattle.gp_story.specs.declared.story.Part.{Part}
use Rattle.gp_story.specs.Folding.{after_lines, with_group}
use Rattle.gp_story.specs.Parts.{parts_of}
use Rattle.gp_story.proofs.Folded.{folded_all}
use Rattle.gp_story.proofs.folding.fold.Goals as goal

pub returns : goal.returns
returns c =
    let all : with_group c.loop-line.folding.parts c.loop-line.folding.group ≡ parts_of c.args.lines.now =
    folded_all c.args.lines.now c.loop-line.folding
    (ap (after_lines c.loop-line.folding) (sym (drop_all c.loop-line.line-index c.args.lines.now c.loop-line-test.false)) ∙ c.loop-line.invariant) in
    IfOk-weaker c.close.result (λ (parts : List Part). parts ≡ with_group c.loop-line.folding.parts c.loop-line.folding.group) (λ (parts : List Part). parts ≡ parts_of c.args.lines.now)
    (λ parts is. is ∙ all) c.close.ensures
