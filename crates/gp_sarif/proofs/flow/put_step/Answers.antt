use Rattle.std.proofs.Common.{append_assoc, append-nil}
use Rattle.gp_sarif.specs.Flows.{step_value}
use Rattle.gp_sarif.proofs.flow.put_step.Goals as goal

pub returns : goal.returns
unfolding step_value
returns c =
    rw (c.in_ok-put_piece-2.ensures, c.in_ok-put_named_number.ensures, c.in_ok-put_location.ensures, c.in_ok-put_name.ensures, c.in_ok-put_piece.ensures)
    (simp (append_assoc, append-nil))
