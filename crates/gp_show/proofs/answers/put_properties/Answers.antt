-- The instances of one property more go from what is left to what is written.
use Rattle.std.proofs.Common.{◌+◌, drop, arith}
use Rattle.gp_show.specs.Answers.{answers_among, answers_from}
use Rattle.gp_show.specs.Request.{request_form}
use Rattle.gp_show.proofs.Further.{all_counted, all_shown, cut_shown, more_shown}
use Rattle.gp_show.proofs.Numbered.{left_from, lent_first, lent_none, no_properties, no_records, none_left, property_first}
use Rattle.gp_show.proofs.Pieces.{anyway}
use Rattle.gp_show.proofs.answers.put_properties.Goals as goal

pub returns-in_default-clause-count : goal.returns-in_default-clause-count
returns-in_default-clause-count g c =
    let window = c.args.basis.now.encoded.now in
    let shared = c.args.basis.now.shared.now in
    let properties = c.args.properties.now in
    let records = c.args.records.now in
    let number = c.loop-number.number in
    all_counted
    (request_form c.args.request.now) c.args.asked (answers_among window shared properties records) (g.S.Sink.written c.args.sink.now) (g.S.Sink.written c.loop-number.sink) c.loop-number.count
    (answers_among window shared (drop number properties) (drop number records))
    (no_records window shared (drop number properties) (drop number records) (lent_none records number c.in_default.ensures.lookup)) c.loop-number.invariant.1

pub returns-in_default-clause-ok : goal.returns-in_default-clause-ok
returns-in_default-clause-ok g c =
    let window = c.args.basis.now.encoded.now in
    let shared = c.args.basis.now.shared.now in
    let properties = c.args.properties.now in
    let records = c.args.records.now in
    let number = c.loop-number.number in
    all_shown
    (request_form c.args.request.now) c.args.asked (answers_among window shared properties records) (g.S.Sink.written c.args.sink.now) (g.S.Sink.written c.loop-number.sink) c.loop-number.count
    (answers_among window shared (drop number properties) (drop number records))
    (no_records window shared (drop number properties) (drop number records) (lent_none records number c.in_default.ensures.lookup)) c.loop-number.invariant.1

pub returns-in_err-count-clause-err : goal.returns-in_err-count-clause-err
returns-in_err-count-clause-err g c =
    let window = c.args.basis.now.encoded.now in
    let shared = c.args.basis.now.shared.now in
    let properties = c.args.properties.now in
    let records = c.args.records.now in
    let number = c.loop-number.number in
    anyway c.from_residual.result
    (cut_shown (request_form c.args.request.now) c.args.asked (answers_among window shared properties records) (g.S.Sink.written c.args.sink.now) (g.S.Sink.written c.loop-number.sink) (g.S.Sink.written c.put_entries.new.sink)
    c.loop-number.count (answers_from window shared c.index-properties-number.result 0 c.entries.result.now) (answers_among window shared (drop (number + 1) properties) (drop (number + 1) records))
    (answers_among window shared (drop number properties) (drop number records))
    (property_first window shared c.index-properties-number.result c.in-Some.told.now c.entries.result.now (drop number properties) (drop (number + 1) properties) (drop number records) (drop (number + 1) records)
    (left_from properties number c.index-properties-number.result c.loop-number-test.true c.index-properties-number.is) (lent_first records number c.in-Some.told c.in-Some.ensures.lookup) c.entries.ensures)
    c.in_err-count.ensures.err c.loop-number.invariant.1)

pub loop-number-preserved : goal.loop-number-preserved
loop-number-preserved g c =
    let window = c.args.basis.now.encoded.now in
    let shared = c.args.basis.now.shared.now in
    let properties = c.args.properties.now in
    let records = c.args.records.now in
    let number = c.loop-number.number in (
      omega (arith, c.loop-number.invariant.0, c.in_ok-count.ensures.later),
      more_shown (request_form c.args.request.now) c.args.asked (answers_among window shared properties records) (g.S.Sink.written c.args.sink.now) (g.S.Sink.written c.loop-number.sink) (g.S.Sink.written c.put_entries.new.sink)
          c.loop-number.count c.in_ok-count.count (answers_from window shared c.index-properties-number.result 0 c.entries.result.now)
          (answers_among window shared (drop (number + 1) properties) (drop (number + 1) records)) (answers_among window shared (drop number properties) (drop number records))
          (property_first window shared c.index-properties-number.result c.in-Some.told.now c.entries.result.now (drop number properties) (drop (number + 1) properties) (drop number records) (drop (number + 1) records)
          (left_from properties number c.index-properties-number.result c.loop-number-test.true c.index-properties-number.is) (lent_first records number c.in-Some.told c.in-Some.ensures.lookup) c.entries.ensures)
          c.in_ok-count.ensures.count c.in_ok-count.ensures.ok c.loop-number.invariant.1,
    )

pub returns-clause-count : goal.returns-clause-count
returns-clause-count g c =
    let window = c.args.basis.now.encoded.now in
    let shared = c.args.basis.now.shared.now in
    let properties = c.args.properties.now in
    let records = c.args.records.now in
    let number = c.loop-number.number in
    all_counted
    (request_form c.args.request.now) c.args.asked (answers_among window shared properties records) (g.S.Sink.written c.args.sink.now) (g.S.Sink.written c.loop-number.sink) c.loop-number.count
    (answers_among window shared (drop number properties) (drop number records))
    (no_properties window shared (drop number properties) (drop number records) (none_left properties number c.loop-number-test.false)) c.loop-number.invariant.1

pub returns-clause-ok : goal.returns-clause-ok
returns-clause-ok g c =
    let window = c.args.basis.now.encoded.now in
    let shared = c.args.basis.now.shared.now in
    let properties = c.args.properties.now in
    let records = c.args.records.now in
    let number = c.loop-number.number in
    all_shown
    (request_form c.args.request.now) c.args.asked (answers_among window shared properties records) (g.S.Sink.written c.args.sink.now) (g.S.Sink.written c.loop-number.sink) c.loop-number.count
    (answers_among window shared (drop number properties) (drop number records))
    (no_properties window shared (drop number properties) (drop number records) (none_left properties number c.loop-number-test.false)) c.loop-number.invariant.1
