-- An instance that is asked for counts once, and one that is not counts nothing and is not shown.
use Rattle.std.proofs.Common.{[], ◌∷◌, subst, sym, ◌∙◌, arith}
use Rattle.gp_outside.specs.Sinks.{Appends}
use Rattle.gp_predict.specs.WrittenLaws.{appends_none, front_all}
use Rattle.gp_view.specs.Answered.{form_of}
use Rattle.gp_show.specs.Show.{text_after}
use Rattle.gp_show.specs.Request.{request_form}
use Rattle.gp_show.proofs.Further.{asked_once, unasked_count, unasked_text}
use Rattle.gp_show.proofs.Pieces.{anyway}
use Rattle.gp_show.proofs.telling.put_if_shown.Goals as goal

pub returns-then-not-asks_in-clause-count : goal.returns-then-not-asks_in-clause-count
returns-then-not-asks_in-clause-count g c =
    let none = unasked_count (request_form c.args.request.now) (form_of c.args.answered.now) (sym c.asks_in.ensures ∙ c.if-not-asks_in.true) in omega (arith, none)

pub returns-then-not-asks_in-clause-ok : goal.returns-then-not-asks_in-clause-ok
returns-then-not-asks_in-clause-ok g c =
    subst (Appends (g.S.Sink.written c.args.sink.now) (g.S.Sink.written c.args.sink.now))
    (sym (unasked_text (request_form c.args.request.now) c.args.asked (form_of c.args.answered.now) (sym c.asks_in.ensures ∙ c.if-not-asks_in.true)))
    (appends_none (g.S.Sink.written c.args.sink.now))

pub returns-in_err-one_more-clause-err : goal.returns-in_err-one_more-clause-err
returns-in_err-one_more-clause-err g c =
    anyway c.from_residual-in_err-one_more.result
    (front_all (g.S.Sink.written c.args.sink.now) (g.S.Sink.written c.put_if_left.new.sink) (text_after (request_form c.args.request.now) c.args.asked (form_of c.args.answered.now ∷ []))
    c.in_ok-put_if_left.ensures.ok)

pub returns-clause-count : goal.returns-clause-count
returns-clause-count g c =
    let once = asked_once (request_form c.args.request.now) (form_of c.args.answered.now) (sym c.asks_in.ensures ∙ c.if-not-asks_in.false) in omega (arith, c.in_ok-one_more.ensures, once)
