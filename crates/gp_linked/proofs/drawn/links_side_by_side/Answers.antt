-- What all drawers drew is all windows.
use Rattle.std.proofs.Common.{◌∙◌, sym, subst, ℕ}
use Rattle.gp_linked.specs.Drawn.{AnswersDrawn}
use Rattle.gp_linked.proofs.Drawing.{answered_in_order}
use Rattle.gp_linked.proofs.drawn.links_side_by_side.Goals as goal

pub returns-clause-count : goal.returns-clause-count
returns-clause-count g c =
    let recording = c.args.recording.now in
    let tickets = c.in_ok-tickets.tickets in
    let all = c.in_ok-parts.ensures.len ∙ c.in_ok-tickets.ensures.len ∙ sym c.in_ok-tickets.ensures.crew in
    let whole : AnswersDrawn tickets recording c.args.budget tickets.crew c.in_ok-gather.field-0 =
    subst (λ (n : ℕ). AnswersDrawn tickets recording c.args.budget n c.in_ok-gather.field-0) all c.in_ok-gather.ensures in
    (answered_in_order recording c.args.budget tickets c.in_ok-gather.field-0 _ whole (c.in_ok-links.ensures tickets whole.own whole.stands_for)).0
    ∙ c.in_ok-tickets.ensures.count ∙ c.from.ensures

pub returns-clause-answers : goal.returns-clause-answers
returns-clause-answers g c =
    let recording = c.args.recording.now in
    let tickets = c.in_ok-tickets.tickets in
    let all = c.in_ok-parts.ensures.len ∙ c.in_ok-tickets.ensures.len ∙ sym c.in_ok-tickets.ensures.crew in
    let whole : AnswersDrawn tickets recording c.args.budget tickets.crew c.in_ok-gather.field-0 =
    subst (λ (n : ℕ). AnswersDrawn tickets recording c.args.budget n c.in_ok-gather.field-0) all c.in_ok-gather.ensures in
    (answered_in_order recording c.args.budget tickets c.in_ok-gather.field-0 _ whole (c.in_ok-links.ensures tickets whole.own whole.stands_for)).1
