use Rattle.std.proofs.Common.{◌≡◌, ◌++◌, drop}
use Rattle.gp_drawing.specs.Escaped.{escaped}
use Rattle.gp_drawing.proofs.escaped.put_escaped.Given as goal

abbrev pub invariant-loop-byte : goal.invariant-loop-byte
invariant-loop-byte l = l.text.items ++ escaped (drop l.byte-index l.bytes) ≡ l.initial.text.items ++ escaped l.bytes
