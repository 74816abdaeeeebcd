-- One more than the newlines so far.
use Rattle.std.proofs.Common.{◌≡◌, ◌+◌, ◌≤◌, take}
use Rattle.std.specs.Prelude.{◌==◌, count_by}
use Rattle.gp_text.proofs.lines.end_line.Given as goal

abbrev pub invariant-loop-byte : goal.invariant-loop-byte
invariant-loop-byte l = record {
  counted : l.line ≡ count_by (λ b. b == 10) (take l.byte-index l.bytes) + 1;
  fits : l.line ≤ l.byte-index + 1;
}
