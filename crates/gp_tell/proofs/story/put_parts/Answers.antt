use Rattle.gp_writer.specs.LinesLaws.{one_more}
use Rattle.gp_place.specs.Places.{behind}
use Rattle.gp_tell.specs.StoryText.{part_lines}
use Rattle.gp_tell.proofs.story.put_parts.Goals as goal

pub loop-part-preserved : goal.loop-part-preserved
loop-part-preserved c =
    rw c.in_ok-put_part.ensures
    (one_more (part_lines (behind c.args.places.now c.args.window.now.number) c.args.window.now) c.loop-part.text.items _ c.args.parts.now c.part-item.result c.loop-part.part-index c.loop-part-test.true c.part-item.is c.loop-part.invariant)
