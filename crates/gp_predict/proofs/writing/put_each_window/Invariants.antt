use Rattle.std.proofs.Common.{◌≤◌, length}
use Rattle.gp_predict.proofs.Progress.{IsBefore}
use Rattle.gp_predict.proofs.writing.put_each_window.Given as goal

abbrev pub decreases-loop-window : goal.decreases-loop-window
decreases-loop-window g l = length l.windows

abbrev pub invariant-loop-window : goal.invariant-loop-window
invariant-loop-window g l =
    (g.S.Sink.faults l.initial.sink ≤ g.S.Sink.faults l.sink)
    × IsBefore l.recording l.properties (g.S.Sink.written l.initial.sink) (g.S.Sink.written l.sink) l.total l.windows
