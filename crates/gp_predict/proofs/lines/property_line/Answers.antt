use Rattle.gp_predict.proofs.SpelledLines.{property_spelled}
use Rattle.gp_predict.proofs.lines.property_line.Goals as goal

pub returns : goal.returns
returns c =
    rw (c.from_vec.ensures, c.in_ok-put_line.ensures, c.new-line.ensures.items, c.as_bytes.ensures.value, c.as_bytes-2.ensures.value)
    (property_spelled c.args.name.now c.args.many.now)
