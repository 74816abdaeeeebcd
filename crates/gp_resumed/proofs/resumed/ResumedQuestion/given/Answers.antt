-- An instance that is listed has the answer that is kept of the old report.
use Rattle.std.proofs.Common.{◌≡◌, ◌∙◌, ap, ℕ, List, Option}
use Rattle.std.proofs.lemmas.Result.{IfOk-weaker}
use Rattle.gp_property.specs.PropertyForm.{PropertyForm}
use Rattle.gp_report.specs.Records.{Answer}
use Rattle.gp_window.specs.declared.schedule.EventId.{EventId}
use Rattle.gp_resume.specs.Kept.{kept_answer}
use Rattle.gp_resume.specs.KeptForm.{answer_to}
use Rattle.gp_resumed.proofs.resumed.ResumedQuestion.given.Goals as goal

pub returns : goal.returns
returns g c =
    let window = c.args.window.now in
    let number = c.subject.inside.number in
    let subject = c.args.subject.now in
    let ids = c.args.ask.now.events in
    let kept : answer_to window.kept number c.as_slice-events.result.now ≡ kept_answer g.N.Naming.old window.encoded subject.1 ids =
    ap (λ (events : List EventId). answer_to window.kept number events) c.as_slice-events.ensures
    ∙ ap (λ (numbered : ℕ × PropertyForm). answer_to window.kept numbered.0 ids) c.subject.view_is
    ∙ window.kept_is.answers subject.0 subject.1 c.requires.one_of ids c.requires.among in
    IfOk-weaker c.answer.result (λ (given : Option Answer). given ≡ answer_to window.kept number c.as_slice-events.result.now) (λ (given : Option Answer). given ≡ kept_answer g.N.Naming.old window.encoded subject.1 ids)
    (λ given same. same ∙ kept) c.answer.ensures
