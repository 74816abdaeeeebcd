use Rattle.std.proofs.Common.{◌≡◌, ◌++◌, drop, map}
use Rattle.gp_text.specs.Spelling.{spelling}
use Rattle.gp_show.specs.Show.{left_out_line}
use Rattle.gp_show.proofs.left_out.add_each_line.Given as goal

abbrev pub invariant-loop-fault : goal.invariant-loop-fault
invariant-loop-fault l = l.text.items ++ spelling (map left_out_line (drop l.fault-index l.faults)) ≡ l.initial.text.items ++ spelling (map left_out_line l.faults)
