use Rattle.std.proofs.Common.{◌≤◌, length}
use Rattle.gp_predict.specs.WrittenLaws.{IsWritten}
use Rattle.gp_predict.proofs.each_line.put_each_line.Given as goal

abbrev pub decreases-loop-rest : goal.decreases-loop-rest
decreases-loop-rest g l = length l.rest

abbrev pub invariant-loop-rest : goal.invariant-loop-rest
invariant-loop-rest g l =
    (g.S.Sink.faults l.initial.sink ≤ g.S.Sink.faults l.sink)
    × IsWritten (g.S.Sink.written l.initial.sink) (g.S.Sink.written l.sink) l.rest l.text
