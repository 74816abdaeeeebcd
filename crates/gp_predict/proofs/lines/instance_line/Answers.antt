use Rattle.gp_predict.proofs.SpelledLines.{instance_spelled}
use Rattle.gp_predict.proofs.lines.instance_line.Goals as goal

pub returns : goal.returns
returns c =
    rw (c.from_vec.ensures, c.in_ok-put_numbered_line.ensures, c.new-line.ensures.items, c.as_slice.ensures)
    (instance_spelled c.args.number c.args.instance.now)
