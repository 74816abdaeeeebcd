-- The windows that are to come are all windows.
use Rattle.std.proofs.Common.{◌≡◌, ◌+◌, List, subst}
use Rattle.std.specs.Prelude.{IfOk, OnErr, OnOk}
use Rattle.gp_outside.specs.Sinks.{Appends, AppendsFront}
use Rattle.gp_window.specs.WindowForm.{WindowForm}
use Rattle.gp_show.specs.Answers.{answers_of}
use Rattle.gp_show.specs.Show.{asked_count, text_after}
use Rattle.gp_show.specs.Request.{request_form}
use Rattle.gp_show.proofs.answers.put_windows.Goals as goal

pub returns-clause-count : goal.returns-clause-count
returns-clause-count g c =
    subst (λ (windows : List WindowForm). IfOk c.put_each_window-count.result (λ count. count ≡ c.args.asked + asked_count (request_form c.args.request.now) (answers_of c.args.properties.now windows c.args.records.now)))
    c.in_ok-windows.ensures c.put_each_window-count.ensures.count

pub returns-clause-ok : goal.returns-clause-ok
returns-clause-ok g c =
    subst (λ (windows : List WindowForm). OnOk c.put_each_window-count.result (Appends (g.S.Sink.written c.args.sink.now) (g.S.Sink.written c.put_each_window-count.new.sink)
    (text_after (request_form c.args.request.now) c.args.asked (answers_of c.args.properties.now windows c.args.records.now)))) c.in_ok-windows.ensures c.put_each_window-count.ensures.ok

pub returns-clause-err : goal.returns-clause-err
returns-clause-err g c =
    subst (λ (windows : List WindowForm). OnErr c.put_each_window-count.result (AppendsFront (g.S.Sink.written c.args.sink.now) (g.S.Sink.written c.put_each_window-count.new.sink)
    (text_after (request_form c.args.request.now) c.args.asked (answers_of c.args.properties.now windows c.args.records.now)))) c.in_ok-windows.ensures c.put_each_window-count.ensures.err
