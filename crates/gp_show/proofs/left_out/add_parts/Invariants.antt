use Rattle.std.proofs.Common.{◌≡◌, ◌++◌, drop}
use Rattle.std.specs.List.{flat_map}
use Rattle.gp_show.specs.Show.{left_out_part}
use Rattle.gp_show.proofs.left_out.add_parts.Given as goal

abbrev pub invariant-loop-fault : goal.invariant-loop-fault
invariant-loop-fault l = l.text.items ++ flat_map left_out_part (drop l.fault-index l.faults) ≡ l.initial.text.items ++ flat_map left_out_part l.faults
