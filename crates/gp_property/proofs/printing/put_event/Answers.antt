use Rattle.std.proofs.Common.{codes}
use Rattle.gp_property.specs.Words.{shape_words}
use Rattle.gp_text.specs.SpellingLaws.{line_put_with}
use Rattle.gp_property.proofs.printing.put_event.Goals as goal

pub returns : goal.returns
returns c =
    rw (c.in_ok-push.ensures.items, c.in_ok-put_shape.ensures, c.in_ok-put_word.ensures, c.as_bytes.ensures.value, c.in_ok-extend_from_slice.ensures.items)
    (line_put_with c.args.text.now.items (codes "event") c.args.event.now.name (shape_words c.args.event.now.shape))
