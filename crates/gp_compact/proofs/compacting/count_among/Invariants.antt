use Rattle.std.proofs.Common.{◌≡◌, ◌+◌, min, take}
use Rattle.gp_sharing.specs.Compacted.{steps_in}
use Rattle.gp_compact.proofs.compacting.count_among.Given as goal

abbrev pub invariant-loop-entry : goal.invariant-loop-entry
invariant-loop-entry l = l.count ≡ min (l.fn.count + steps_in (take l.entry-index l.entries)) 18446744073709551615
