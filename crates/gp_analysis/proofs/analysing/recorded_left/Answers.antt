-- One window more is recorded, until all are.
use Rattle.std.proofs.Common.{◌≡◌, subst, ◌∷◌}
use Rattle.gp_window.specs.Windows.{TakesFirst}
use Rattle.gp_analysis.proofs.Windows.{all_recorded, next_within, none_recorded, one_recorded}
use Rattle.gp_analysis.proofs.analysing.recorded_left.Goals as goal

pub loop-records-init : goal.loop-records-init
loop-records-init g c =
    let task = c.args.task.now in
    none_recorded (g.Q.Question.form task.question.now) task.telling task.workers task.budget c.args.windows.now c.new-records.result.items c.requires.can c.new-records.ensures.items

pub window_record-requires-clause-can : goal.window_record-requires-clause-can
window_record-requires-clause-can g c _ _ =
    let task = c.args.task.now in
    let first : c.loop-records.windows ≡ c.in-Some.window ∷ c.next.new.self = subst (λ window. TakesFirst c.loop-records.windows window c.next.new.self) c.in-Some.is c.in_ok-window.ensures in
    next_within (g.Q.Question.form task.question.now) task.telling task.workers task.budget c.args.windows.now c.loop-records.windows c.next.new.self c.in-Some.window c.loop-records.records.items first c.loop-records.invariant

pub loop-records-preserved : goal.loop-records-preserved
loop-records-preserved g c =
    let task = c.args.task.now in
    let first : c.loop-records.windows ≡ c.in-Some.window ∷ c.next.new.self = subst (λ window. TakesFirst c.loop-records.windows window c.next.new.self) c.in-Some.is c.in_ok-window.ensures in
    one_recorded (g.Q.Question.form task.question.now) task.telling task.workers task.budget c.args.windows.now c.loop-records.windows c.next.new.self c.in-Some.window c.loop-records.records.items c.push.new.self.items
    c.in_ok-own.own first c.loop-records.invariant c.in_ok-own.ensures.records c.in_ok-push.ensures.items

pub returns : goal.returns
returns g c =
    let task = c.args.task.now in
    all_recorded (g.Q.Question.form task.question.now) task.telling task.workers task.budget c.args.windows.now c.loop-records.windows c.loop-records.records.items
    (subst (λ window. TakesFirst c.loop-records.windows window c.next.new.self) c.in_default.is c.in_ok-window.ensures).0 c.loop-records.invariant
