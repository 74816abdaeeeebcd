-- What one drawer more drew goes to the rest, until all are together.
use Rattle.std.proofs.Common.{◌≡◌, ◌∙◌, sym, ap, subst, ℕ, ◌+◌, Some, Result, IfOk, length, arith}
use Rattle.std.specs.declared.alloc.AllocError.{AllocError}
use Rattle.std.proofs.lemmas.List.Elements.{All-pop}
use Rattle.gp_report.specs.declared.record.WindowRecordOf.{WindowRecordOf}
use Rattle.gp_tickets.specs.declared.drawn.Drawn.{Drawn}
use Rattle.gp_tickets.specs.Drawn.{drawers_of}
use Rattle.gp_analysis.specs.Drawn.{RecordsDrawn}
use Rattle.gp_analysis.proofs.Drawing.{both_drawn}
use Rattle.gp_analysis.proofs.drawn.gather.Goals as goal

pub loop-part-init : goal.loop-part-init
loop-part-init g c =
    let task = c.args.task.now in
    let question = g.Q.Question.form task.question.now in
    let Own : Result (Drawn (WindowRecordOf g.row.Q-Shown.Denot)) AllocError → Type 0 = λ part. IfOk part (RecordsDrawn question task.telling c.args.tickets.now c.args.recording.now task.workers task.budget 1) in
    let more = All-pop Own c.args.parts.items c.pop.new.self.items (Some c.in-Some.first) c.in-Some.ensures.items c.requires.drawn in
    let own : RecordsDrawn question task.telling c.args.tickets.now c.args.recording.now task.workers task.budget 1 c.in_ok-all.all = subst Own c.in_ok-all.was more.1 in
    record {
      drawers = omega (arith, own.stands_for, c.in-Some.ensures.cases);
      own = subst (λ (n : ℕ). RecordsDrawn question task.telling c.args.tickets.now c.args.recording.now task.workers task.budget n c.in_ok-all.all) (sym own.stands_for) own;
      left = more.0;
    }

pub take-requires-clause-own : goal.take-requires-clause-own
take-requires-clause-own g c = c.loop-part.invariant.own.own

pub take-requires-clause-other : goal.take-requires-clause-other
take-requires-clause-other g c =
    let task = c.args.task.now in
    let question = g.Q.Question.form task.question.now in
    let Own : Result (Drawn (WindowRecordOf g.row.Q-Shown.Denot)) AllocError → Type 0 = λ part. IfOk part (RecordsDrawn question task.telling c.args.tickets.now c.args.recording.now task.workers task.budget 1) in
    let more = All-pop Own c.loop-part.parts.items c.pop-in-loop-part.new.self.items (Some c.in-Some-pop.part) c.in-Some-pop.ensures.items c.loop-part.invariant.left in
    let one : RecordsDrawn question task.telling c.args.tickets.now c.args.recording.now task.workers task.budget 1 c.in_ok-part.field-0 = subst Own c.in_ok-part.was more.1 in
    one.own

pub loop-part-preserved : goal.loop-part-preserved
loop-part-preserved g c =
    let task = c.args.task.now in
    let question = g.Q.Question.form task.question.now in
    let tickets = c.args.tickets.now in
    let old = c.loop-part.all in
    let new = c.take.new.self in
    let other = c.in_ok-part.field-0 in
    let Own : Result (Drawn (WindowRecordOf g.row.Q-Shown.Denot)) AllocError → Type 0 = λ part. IfOk part (RecordsDrawn question task.telling tickets c.args.recording.now task.workers task.budget 1) in
    let more = All-pop Own c.loop-part.parts.items c.pop-in-loop-part.new.self.items (Some c.in-Some-pop.part) c.in-Some-pop.ensures.items c.loop-part.invariant.left in
    let one : RecordsDrawn question task.telling tickets c.args.recording.now task.workers task.budget 1 other = subst Own c.in_ok-part.was more.1 in
    let drawers : drawers_of new ≡ drawers_of old + 1 = c.in_ok-take.ensures.drawers ∙ ap (λ (n : ℕ). drawers_of old + n) one.stands_for in
    let both = both_drawn question task.telling c.args.recording.now task.workers task.budget tickets (drawers_of old) old other new c.loop-part.invariant.own one c.in_ok-take.ensures.made c.in_ok-take.ensures.drawn c.in_ok-take.ensures.drawers in
    record {
      drawers = omega (arith, drawers, c.loop-part.invariant.drawers, c.in-Some-pop.ensures.cases);
      own = subst (λ (n : ℕ). RecordsDrawn question task.telling tickets c.args.recording.now task.workers task.budget n new) (sym drawers) both;
      left = more.0;
    }

pub returns : goal.returns
returns g c =
    let task = c.args.task.now in
    let question = g.Q.Question.form task.question.now in
    let drawers : drawers_of c.loop-part.all ≡ length c.args.parts.items = omega (arith, c.loop-part.invariant.drawers, c.in_default-pop.ensures.cases.0) in
    subst (λ (n : ℕ). RecordsDrawn question task.telling c.args.tickets.now c.args.recording.now task.workers task.budget n c.loop-part.all) drawers c.loop-part.invariant.own
