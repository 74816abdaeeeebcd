-- What is put, and then what is left, is all.
use Rattle.std.proofs.Common.{◌≡◌, ◌++◌, drop, map}
use Rattle.gp_beside.specs.Sources.{shown_byte}
use Rattle.gp_beside.proofs.sources.put_shown.Given as goal

abbrev pub invariant-loop-byte : goal.invariant-loop-byte
invariant-loop-byte l = l.text.items ++ map shown_byte (drop l.byte-index l.part) ≡ l.initial.text.items ++ map shown_byte l.part
