use Rattle.std.proofs.Common.{append_assoc, append-nil}
use Rattle.gp_sarif.specs.Log.{tool_value}
use Rattle.gp_sarif.proofs.log.put_tool.Goals as goal

pub returns : goal.returns
unfolding tool_value
returns c =
    rw (c.in_ok-put_piece-4.ensures, c.in_ok-put_rules.ensures, c.in_ok-put_piece-3.ensures, c.in_ok-put_name-2.ensures, c.in_ok-put_named_string.ensures, c.in_ok-put_piece-2.ensures, c.in_ok-put_name.ensures, c.in_ok-put_piece.ensures)
    (simp (append_assoc, append-nil))
