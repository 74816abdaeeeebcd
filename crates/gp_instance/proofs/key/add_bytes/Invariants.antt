use Rattle.std.proofs.Common.{◌≡◌, ◌++◌, take}
use Rattle.gp_instance.proofs.key.add_bytes.Given as goal

abbrev pub invariant-loop-byte : goal.invariant-loop-byte
invariant-loop-byte l = l.numbers ≡ l.initial.numbers ++ take l.byte-index l.bytes
