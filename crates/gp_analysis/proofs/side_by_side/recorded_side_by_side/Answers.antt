-- What all drawers drew is all windows.
use Rattle.std.proofs.Common.{◌≡◌, ◌∙◌, sym, ap, subst, ℕ}
use Rattle.gp_analysis.specs.Drawn.{RecordsDrawn}
use Rattle.gp_analysis.proofs.Drawing.{recorded_in_order}
use Rattle.gp_analysis.proofs.side_by_side.recorded_side_by_side.Goals as goal

pub returns : goal.returns
returns g c =
    let recording = c.args.recording.now in
    let task = c.args.task.now in
    let question = g.Q.Question.form task.question.now in
    let tickets = c.in_ok-tickets.tickets in
    let all = c.in_ok-parts.ensures.len ∙ c.in_ok-tickets.ensures.len ∙ sym c.in_ok-tickets.ensures.crew in
    let counted : tickets.count ≡ recording.manifest.epochs = c.in_ok-tickets.ensures.count ∙ c.from.ensures ∙ c.epochs-epochs.ensures.value ∙ ap (λ manifest. manifest.epochs) c.manifest.ensures.value in
    let whole : RecordsDrawn question task.telling tickets recording task.workers task.budget tickets.crew c.in_ok-gather.field-0 =
    subst (λ (n : ℕ). RecordsDrawn question task.telling tickets recording task.workers task.budget n c.in_ok-gather.field-0) all c.in_ok-gather.ensures in
    recorded_in_order question task.telling recording task.workers task.budget tickets c.in_ok-gather.field-0 _ whole counted (c.in_ok-records.ensures tickets whole.own whole.stands_for)
