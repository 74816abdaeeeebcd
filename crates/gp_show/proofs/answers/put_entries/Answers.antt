-- One instance more goes from what is left to what is written.
use Rattle.std.proofs.Common.{◌+◌, ap, drop, arith}
use Rattle.gp_show.specs.Answers.{answers_from}
use Rattle.gp_show.specs.Request.{request_form}
use Rattle.gp_show.proofs.Further.{all_counted, all_shown, cut_shown, more_shown}
use Rattle.gp_show.proofs.Numbered.{entry_first, left_from, none_left}
use Rattle.gp_show.proofs.Pieces.{anyway}
use Rattle.gp_show.proofs.answers.put_entries.Goals as goal

pub returns-in_err-count-clause-err : goal.returns-in_err-count-clause-err
returns-in_err-count-clause-err g c =
    let answers = answers_from c.args.basis.now.encoded.now c.args.basis.now.shared.now c.args.property.now in
    let number = c.loop-number.number in
    let entries = c.args.entries.now in
    let entry = c.index-entries-number.result in
    anyway c.from_residual.result
    (cut_shown (request_form c.args.request.now) c.args.asked (answers 0 entries) (g.S.Sink.written c.args.sink.now) (g.S.Sink.written c.loop-number.sink) (g.S.Sink.written c.put_if_shown.new.sink) c.loop-number.count
    _ (answers (number + 1) (drop (number + 1) entries)) (answers number (drop number entries))
    (entry_first c.args.basis.now.encoded.now c.args.basis.now.shared.now c.args.property.now number entry (drop number entries) (drop (number + 1) entries)
    (left_from entries number entry c.loop-number-test.true c.index-entries-number.is))
    c.in_err-count.ensures.err c.loop-number.invariant.1)

pub loop-number-preserved : goal.loop-number-preserved
loop-number-preserved g c =
    let answers = answers_from c.args.basis.now.encoded.now c.args.basis.now.shared.now c.args.property.now in
    let number = c.loop-number.number in
    let entries = c.args.entries.now in
    let entry = c.index-entries-number.result in (
      omega (arith, c.loop-number.invariant.0, c.in_ok-count.ensures.later),
      more_shown (request_form c.args.request.now) c.args.asked (answers 0 entries) (g.S.Sink.written c.args.sink.now) (g.S.Sink.written c.loop-number.sink) (g.S.Sink.written c.put_if_shown.new.sink) c.loop-number.count
          c.in_ok-count.count _ (answers (number + 1) (drop (number + 1) entries)) (answers number (drop number entries))
          (entry_first c.args.basis.now.encoded.now c.args.basis.now.shared.now c.args.property.now number entry (drop number entries) (drop (number + 1) entries)
          (left_from entries number entry c.loop-number-test.true c.index-entries-number.is))
          c.in_ok-count.ensures.count c.in_ok-count.ensures.ok c.loop-number.invariant.1,
    )

pub returns-clause-count : goal.returns-clause-count
returns-clause-count g c =
    let answers = answers_from c.args.basis.now.encoded.now c.args.basis.now.shared.now c.args.property.now in
    all_counted (request_form c.args.request.now) c.args.asked (answers 0 c.args.entries.now) (g.S.Sink.written c.args.sink.now) (g.S.Sink.written c.loop-number.sink) c.loop-number.count
    (answers c.loop-number.number (drop c.loop-number.number c.args.entries.now)) (ap (answers c.loop-number.number) (none_left c.args.entries.now c.loop-number.number c.loop-number-test.false)) c.loop-number.invariant.1

pub returns-clause-ok : goal.returns-clause-ok
returns-clause-ok g c =
    let answers = answers_from c.args.basis.now.encoded.now c.args.basis.now.shared.now c.args.property.now in
    all_shown (request_form c.args.request.now) c.args.asked (answers 0 c.args.entries.now) (g.S.Sink.written c.args.sink.now) (g.S.Sink.written c.loop-number.sink) c.loop-number.count
    (answers c.loop-number.number (drop c.loop-number.number c.args.entries.now)) (ap (answers c.loop-number.number) (none_left c.args.entries.now c.loop-number.number c.loop-number-test.false)) c.loop-number.invariant.1
