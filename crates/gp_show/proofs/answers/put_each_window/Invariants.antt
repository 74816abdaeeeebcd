use Rattle.std.proofs.Common.{◌≤◌, drop}
use Rattle.gp_show.specs.Answers.{answers_of}
use Rattle.gp_show.specs.Request.{request_form}
use Rattle.gp_show.proofs.Further.{AreShown}
use Rattle.gp_show.proofs.answers.put_each_window.Given as goal

abbrev pub invariant-loop-told : goal.invariant-loop-told
invariant-loop-told g l =
    (g.S.Sink.faults l.initial.sink ≤ g.S.Sink.faults l.sink)
    × AreShown (request_form l.request) l.asked (answers_of l.properties l.initial.windows l.records) (g.S.Sink.written l.initial.sink) (g.S.Sink.written l.sink) l.count
    (answers_of l.properties l.windows (drop l.told-index l.records))
