use Rattle.std.proofs.Common.{◌≡◌, sym, subst, Option, Result, Ok, Err}
use Rattle.std.specs.Option.{MatchOption}
use Rattle.std.proofs.lemmas.Result.{IfOk-weaker}
use Rattle.gp_constraint.specs.declared.fault.BaseFault.{BaseFault}
use Rattle.gp_constraint.specs.declared.fault.BaseFault.TheVariants.{TooLarge}
use Rattle.gp_constraint.specs.Encoded.{base_due}
use Rattle.gp_constraint.specs.EncodedLaws.{is_due, is_encoded}
use Rattle.gp_window.specs.WindowForm.{WindowForm}
use Rattle.gp_checker.specs.declared.failure.Failure.{Failure}
use Rattle.gp_deadlock_checker.specs.Accepted.{AcceptsBody}
use Rattle.gp_deadlock_checker.specs.Rejected.{FailsBody}
use Rattle.gp_deadlock_checker.proofs.window.check_window.Goals as goal

pub returns-in-Ok : goal.returns-in-Ok
returns-in-Ok c =
    let window : WindowForm = c.args.window in
    let encoded : WindowForm = c.in-Ok.encoded in
    let budget = c.args.budget in
    let told = c.args.told.now in
    let due : ◌≡◌ {A = Result WindowForm BaseFault} (Ok encoded) (base_due window) = c.in-Ok.ensures (λ e. cc) in
    let is = is_encoded window encoded (sym due) in
    let Finds : WindowForm → Option Failure → Result WindowForm BaseFault → Type 0 = λ w found due.
    MatchOption found (AcceptsBody w budget told.shared due told.body) (λ (failure : Failure). FailsBody w budget told.shared failure due told.body) in
    IfOk-weaker c.check_answers-found.result (λ (found : Option Failure). Finds encoded found (Ok encoded)) (λ (found : Option Failure). Finds window found (base_due window))
    (λ found finds. subst (Finds window found) (sym (is_due window is.encodable)) (subst (λ (w : WindowForm). Finds w found (Ok w)) is.same finds)) c.check_answers-found.ensures

pub returns-in-Err-TooLarge : goal.returns-in-Err-TooLarge
returns-in-Err-TooLarge c =
    let window : WindowForm = c.args.window in
    let budget = c.args.budget in
    let told = c.args.told.now in
    let Finds : Result WindowForm BaseFault → Type 0 = λ due.
    MatchOption c.check_size.result (AcceptsBody window budget told.shared due told.body) (λ (failure : Failure). FailsBody window budget told.shared failure due told.body) in
    let large = rw c.in-Err-TooLarge.field-0-is at c.in-Err-TooLarge.ensures in
    let due : ◌≡◌ {A = Result WindowForm BaseFault} (Err (TooLarge c.in-Err-TooLarge.events c.in-Err-TooLarge.clauses)) (base_due c.args.window) = large (λ e. cc) in
    let sized = rw (c.in-Err-TooLarge.events-is, c.in-Err-TooLarge.clauses-is) at c.check_size.ensures in
    subst Finds due sized
