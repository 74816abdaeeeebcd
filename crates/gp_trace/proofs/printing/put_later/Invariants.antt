use Rattle.std.proofs.Common.{◌≡◌, ◌+◌, ◌++◌, drop}
use Rattle.gp_text.specs.Spelling.{spelling}
use Rattle.gp_trace.specs.Printed.{later_lines}
use Rattle.gp_trace.proofs.printing.put_later.Given as goal

abbrev pub invariant-loop-index : goal.invariant-loop-index
invariant-loop-index l =
    l.out.items ++ spelling (later_lines l.exit_in (l.index + 2) (drop l.index l.segments)) ≡ l.initial.out.items ++ spelling (later_lines l.exit_in 2 l.segments)
