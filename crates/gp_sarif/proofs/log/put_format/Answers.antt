use Rattle.std.proofs.Common.{append_assoc, append-nil}
use Rattle.gp_sarif.specs.Log.{format_begun}
use Rattle.gp_sarif.proofs.log.put_format.Goals as goal

pub returns : goal.returns
unfolding format_begun
returns c =
    rw (c.in_ok-put_piece-2.ensures, c.in_ok-put_name.ensures, c.in_ok-put_named_string-2.ensures, c.in_ok-put_named_string.ensures, c.in_ok-put_piece.ensures)
    (simp (append_assoc, append-nil))
