use Rattle.std.proofs.Common.{◌≤◌, drop}
use Rattle.gp_show.specs.Answers.{answers_among}
use Rattle.gp_show.specs.Request.{request_form}
use Rattle.gp_show.proofs.Further.{AreShown}
use Rattle.gp_show.proofs.answers.put_properties.Given as goal

abbrev pub invariant-loop-number : goal.invariant-loop-number
invariant-loop-number g l =
    (g.S.Sink.faults l.initial.sink ≤ g.S.Sink.faults l.sink)
    × AreShown (request_form l.request) l.asked (answers_among l.basis.encoded.now l.basis.shared.now l.properties l.records) (g.S.Sink.written l.initial.sink) (g.S.Sink.written l.sink) l.count
    (answers_among l.basis.encoded.now l.basis.shared.now (drop l.number l.properties) (drop l.number l.records))
