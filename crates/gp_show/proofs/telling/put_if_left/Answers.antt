-- Where not too many were before it, an instance that is asked for is shown.
use Rattle.std.proofs.Common.{◌<◌, ◌≤◌, OnErr, OnOk, subst, sym, ℕ, List, arith}
use Rattle.gp_outside.specs.Sinks.{Appends, AppendsFront}
use Rattle.gp_predict.specs.WrittenLaws.{appends_none}
use Rattle.gp_view.specs.Answered.{form_of}
use Rattle.gp_show.specs.Request.{request_form}
use Rattle.gp_show.proofs.Further.{asked_text, past_text}
use Rattle.gp_show.proofs.telling.put_if_left.Goals as goal

pub returns-then-from-asked-clause-ok : goal.returns-then-from-asked-clause-ok
returns-then-from-asked-clause-ok g c =
    let past : (request_form c.args.request.now).command.most ≤ c.args.asked = omega (arith, c.from.ensures, c.if-from-asked.true) in
    subst (Appends (g.S.Sink.written c.args.sink.now) (g.S.Sink.written c.args.sink.now))
    (sym (past_text (request_form c.args.request.now) c.args.asked (form_of c.args.answered.now) c.requires past))
    (appends_none (g.S.Sink.written c.args.sink.now))

pub returns-clause-ok : goal.returns-clause-ok
returns-clause-ok g c =
    let below : c.args.asked < (request_form c.args.request.now).command.most = omega (arith, c.from.ensures, c.if-from-asked.false) in
    subst (λ (text : List ℕ). OnOk c.put_told.result (Appends (g.S.Sink.written c.args.sink.now) (g.S.Sink.written c.put_told.new.sink) text))
    (sym (asked_text (request_form c.args.request.now) c.args.asked (form_of c.args.answered.now) c.requires below)) c.put_told.ensures.ok

pub returns-clause-err : goal.returns-clause-err
returns-clause-err g c =
    let below : c.args.asked < (request_form c.args.request.now).command.most = omega (arith, c.from.ensures, c.if-from-asked.false) in
    subst (λ (text : List ℕ). OnErr c.put_told.result (AppendsFront (g.S.Sink.written c.args.sink.now) (g.S.Sink.written c.put_told.new.sink) text))
    (sym (asked_text (request_form c.args.request.now) c.args.asked (form_of c.args.answered.now) c.requires below)) c.put_told.ensures.err
