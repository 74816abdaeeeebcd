-- The instances of one window more go from what is left to what is written.
use Rattle.std.proofs.Common.{◌≡◌, ◌+◌, [], ◌∷◌, drop, subst, arith}
use Rattle.gp_window.specs.Windows.{TakesFirst}
use Rattle.gp_show.specs.Answers.{answers_in, answers_of}
use Rattle.gp_show.specs.Request.{request_form}
use Rattle.gp_show.proofs.Further.{all_counted, all_shown, begun_shown, cut_shown, more_shown, none_shown}
use Rattle.gp_show.proofs.Numbered.{left_from, no_window_records, no_windows, none_left, window_first}
use Rattle.gp_show.proofs.Pieces.{anyway}
use Rattle.gp_show.proofs.answers.put_each_window.Goals as goal

pub loop-told-init : goal.loop-told-init
loop-told-init g c =
    let whole = answers_of c.args.properties.now c.args.windows.now c.args.records.now in
    (omega arith, none_shown (request_form c.args.request.now) c.args.asked whole (g.S.Sink.written c.args.sink.now))

pub returns-in_err-window-clause-err : goal.returns-in_err-window-clause-err
returns-in_err-window-clause-err g c =
    let properties = c.args.properties.now in
    let records = c.args.records.now in
    let place = c.loop-told.told-index in
    let whole = answers_of properties c.args.windows.now records in
    anyway c.from_residual.result
    (begun_shown (request_form c.args.request.now) c.args.asked whole (g.S.Sink.written c.args.sink.now) (g.S.Sink.written c.loop-told.sink) c.loop-told.count (answers_of properties c.loop-told.windows (drop place records))
    c.loop-told.invariant.1)

pub returns-in_default-clause-count : goal.returns-in_default-clause-count
returns-in_default-clause-count g c =
    let properties = c.args.properties.now in
    let records = c.args.records.now in
    let place = c.loop-told.told-index in
    let whole = answers_of properties c.args.windows.now records in
    let none : c.loop-told.windows ≡ [] = (subst (λ window. TakesFirst c.loop-told.windows window c.next.new.self) c.in_default.is c.in_ok-window.ensures).0 in
    all_counted (request_form c.args.request.now) c.args.asked whole (g.S.Sink.written c.args.sink.now) (g.S.Sink.written c.loop-told.sink) c.loop-told.count (answers_of properties c.loop-told.windows (drop place records))
    (no_windows properties c.loop-told.windows (drop place records) none) c.loop-told.invariant.1

pub returns-in_default-clause-ok : goal.returns-in_default-clause-ok
returns-in_default-clause-ok g c =
    let properties = c.args.properties.now in
    let records = c.args.records.now in
    let place = c.loop-told.told-index in
    let whole = answers_of properties c.args.windows.now records in
    let none : c.loop-told.windows ≡ [] = (subst (λ window. TakesFirst c.loop-told.windows window c.next.new.self) c.in_default.is c.in_ok-window.ensures).0 in
    all_shown (request_form c.args.request.now) c.args.asked whole (g.S.Sink.written c.args.sink.now) (g.S.Sink.written c.loop-told.sink) c.loop-told.count (answers_of properties c.loop-told.windows (drop place records))
    (no_windows properties c.loop-told.windows (drop place records) none) c.loop-told.invariant.1

pub returns-in_err-count-clause-err : goal.returns-in_err-count-clause-err
returns-in_err-count-clause-err g c =
    let properties = c.args.properties.now in
    let records = c.args.records.now in
    let place = c.loop-told.told-index in
    let whole = answers_of properties c.args.windows.now records in
    let first : c.loop-told.windows ≡ c.in-Some.window ∷ c.next.new.self = subst (λ window. TakesFirst c.loop-told.windows window c.next.new.self) c.in-Some.is c.in_ok-window.ensures in
    anyway c.from_residual-in_err-count.result
    (cut_shown (request_form c.args.request.now) c.args.asked whole (g.S.Sink.written c.args.sink.now) (g.S.Sink.written c.loop-told.sink) (g.S.Sink.written c.put_window.new.sink) c.loop-told.count
    (answers_in properties c.in-Some.window c.told-item.result) (answers_of properties c.next.new.self (drop (place + 1) records)) (answers_of properties c.loop-told.windows (drop place records))
    (window_first properties c.in-Some.window c.told-item.result c.loop-told.windows c.next.new.self (drop place records) (drop (place + 1) records) first (left_from records place c.told-item.result c.loop-told-test.true c.told-item.is))
    c.in_err-count.ensures.err c.loop-told.invariant.1)

pub loop-told-preserved : goal.loop-told-preserved
loop-told-preserved g c =
    let properties = c.args.properties.now in
    let records = c.args.records.now in
    let place = c.loop-told.told-index in
    let whole = answers_of properties c.args.windows.now records in
    let first : c.loop-told.windows ≡ c.in-Some.window ∷ c.next.new.self = subst (λ window. TakesFirst c.loop-told.windows window c.next.new.self) c.in-Some.is c.in_ok-window.ensures in (
      omega (arith, c.loop-told.invariant.0, c.in_ok-count.ensures.later),
      more_shown (request_form c.args.request.now) c.args.asked whole (g.S.Sink.written c.args.sink.now) (g.S.Sink.written c.loop-told.sink) (g.S.Sink.written c.put_window.new.sink) c.loop-told.count c.in_ok-count.count
          (answers_in properties c.in-Some.window c.told-item.result) (answers_of properties c.next.new.self (drop (place + 1) records)) (answers_of properties c.loop-told.windows (drop place records))
          (window_first properties c.in-Some.window c.told-item.result c.loop-told.windows c.next.new.self (drop place records) (drop (place + 1) records) first (left_from records place c.told-item.result c.loop-told-test.true c.told-item.is))
          c.in_ok-count.ensures.count c.in_ok-count.ensures.ok c.loop-told.invariant.1,
    )

pub returns-clause-count : goal.returns-clause-count
returns-clause-count g c =
    let properties = c.args.properties.now in
    let records = c.args.records.now in
    let place = c.loop-told.told-index in
    let whole = answers_of properties c.args.windows.now records in
    all_counted (request_form c.args.request.now) c.args.asked whole (g.S.Sink.written c.args.sink.now) (g.S.Sink.written c.loop-told.sink) c.loop-told.count (answers_of properties c.loop-told.windows (drop place records))
    (no_window_records properties c.loop-told.windows (drop place records) (none_left records place c.loop-told-test.false)) c.loop-told.invariant.1

pub returns-clause-ok : goal.returns-clause-ok
returns-clause-ok g c =
    let properties = c.args.properties.now in
    let records = c.args.records.now in
    let place = c.loop-told.told-index in
    let whole = answers_of properties c.args.windows.now records in
    all_shown (request_form c.args.request.now) c.args.asked whole (g.S.Sink.written c.args.sink.now) (g.S.Sink.written c.loop-told.sink) c.loop-told.count (answers_of properties c.loop-told.windows (drop place records))
    (no_window_records properties c.loop-told.windows (drop place records) (none_left records place c.loop-told-test.false)) c.loop-told.invariant.1
