use Rattle.std.proofs.Common.{◌≤◌, take}
use Rattle.std.specs.Prelude.{flat_map}
use Rattle.gp_outside.specs.Sinks.{Appends}
use Rattle.gp_predict.proofs.writing.put_lines.Given as goal

abbrev pub invariant-loop-line : goal.invariant-loop-line
invariant-loop-line g l =
    (g.S.Sink.faults l.initial.sink ≤ g.S.Sink.faults l.sink)
    × Appends (g.S.Sink.written l.initial.sink) (g.S.Sink.written l.sink) (flat_map (λ line. line) (take l.line-index l.lines))
