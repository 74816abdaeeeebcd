use Rattle.std.proofs.Common.{codes}
use Rattle.gp_property.specs.Words.{steps_words}
use Rattle.gp_text.specs.SpellingLaws.{line_put}
use Rattle.gp_property.proofs.printing.put_pattern.Goals as goal

pub returns : goal.returns
returns c =
    rw (c.in_ok-push.ensures.items, c.in_ok-put_steps.ensures, c.in_ok-extend_from_slice.ensures.items)
    (line_put c.args.text.now.items (codes "pattern") (steps_words c.args.pattern.now))
