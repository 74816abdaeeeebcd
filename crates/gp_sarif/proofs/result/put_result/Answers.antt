use Rattle.std.proofs.Common.{append_assoc, append-nil}
use Rattle.gp_sarif.specs.Results.{result_value}
use Rattle.gp_sarif.proofs.result.put_result.Goals as goal

pub returns : goal.returns
unfolding result_value
returns c =
    rw (c.in_ok-put_piece-2.ensures, c.in_ok-put_happening.ensures, c.in_ok-put_title.ensures, c.in_ok-put_piece.ensures)
    (simp (append_assoc, append-nil))
