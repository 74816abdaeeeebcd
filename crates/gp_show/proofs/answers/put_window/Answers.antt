-- A window without an answer that is wanted tells nothing, and one that is too large has no instance.
use Rattle.std.proofs.Common.{◌≡◌, ◌∙◌, List, subst, sym, arith}
use Rattle.gp_outside.specs.Sinks.{Appends}
use Rattle.gp_predict.specs.WrittenLaws.{appends_none, front_none}
use Rattle.gp_view.specs.Answered.{AnsweredForm}
use Rattle.gp_show.specs.Answers.{answers_in}
use Rattle.gp_show.specs.Show.{asked_count, text_after}
use Rattle.gp_show.specs.Request.{request_form}
use Rattle.gp_show.proofs.Further.{count_none, text_none}
use Rattle.gp_show.proofs.Numbered.{large_none}
use Rattle.gp_show.proofs.Unwanted.{unwanted_count, unwanted_text}
use Rattle.gp_show.proofs.answers.put_window.Goals as goal

pub returns-then-not-wants_window-clause-count : goal.returns-then-not-wants_window-clause-count
returns-then-not-wants_window-clause-count g c =
    let none = unwanted_count (request_form c.args.request.now) c.args.properties.now c.args.window c.args.told.now (sym c.wants_window.ensures ∙ c.if-not-wants_window.true) in omega (arith, none)

pub returns-then-not-wants_window-clause-ok : goal.returns-then-not-wants_window-clause-ok
returns-then-not-wants_window-clause-ok g c =
    subst (Appends (g.S.Sink.written c.args.sink.now) (g.S.Sink.written c.args.sink.now))
    (sym (unwanted_text (request_form c.args.request.now) c.args.properties.now c.args.window c.args.told.now (sym c.wants_window.ensures ∙ c.if-not-wants_window.true) c.args.asked))
    (appends_none (g.S.Sink.written c.args.sink.now))

pub returns-in-Err-TooLarge-clause-count : goal.returns-in-Err-TooLarge-clause-count
returns-in-Err-TooLarge-clause-count g c =
    let large = rw c.in-Err-TooLarge.field-0-is at c.in-Err-TooLarge.ensures in
    let none = large_none c.args.properties.now c.args.told.now c.args.window _ (large (λ e. cc)) in
    let count = subst (λ (answers : List AnsweredForm). asked_count (request_form c.args.request.now) answers ≡ 0) (sym none) (count_none (request_form c.args.request.now)) in
    omega (arith, count)

pub returns-in-Err-TooLarge-clause-ok : goal.returns-in-Err-TooLarge-clause-ok
returns-in-Err-TooLarge-clause-ok g c =
    let large = rw c.in-Err-TooLarge.field-0-is at c.in-Err-TooLarge.ensures in
    let none = large_none c.args.properties.now c.args.told.now c.args.window _ (large (λ e. cc)) in
    subst (λ (answers : List AnsweredForm). Appends (g.S.Sink.written c.args.sink.now) (g.S.Sink.written c.args.sink.now) (text_after (request_form c.args.request.now) c.args.asked answers)) (sym none)
    (subst (Appends (g.S.Sink.written c.args.sink.now) (g.S.Sink.written c.args.sink.now)) (sym (text_none (request_form c.args.request.now) c.args.asked)) (appends_none (g.S.Sink.written c.args.sink.now)))

pub returns-in-Err-Memory-clause-err : goal.returns-in-Err-Memory-clause-err
returns-in-Err-Memory-clause-err g c =
    front_none (g.S.Sink.written c.args.sink.now) (text_after (request_form c.args.request.now) c.args.asked (answers_in c.args.properties.now c.args.window c.args.told.now))
