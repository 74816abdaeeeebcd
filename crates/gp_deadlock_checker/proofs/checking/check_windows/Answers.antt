-- One window more is accepted, until all are.
use Rattle.std.proofs.Common.{◌≡◌, ◌∙◌, subst, ap, List, ◌∷◌, length}
use Rattle.gp_report.specs.Records.{WindowRecord}
use Rattle.gp_window.specs.Windows.{TakesFirst}
use Rattle.gp_deadlock_checker.specs.Accepted.{AcceptsWindow}
use Rattle.gp_deadlock_checker.specs.Finds.{FindsAt}
use Rattle.gp_deadlock_checker.specs.Rejected.{FailsWindow}
use Rattle.gp_checker.specs.WalkLaws.{all_checked, none_checked, window_accepted, window_rejected}
use Rattle.gp_deadlock_checker.proofs.Finds.{whole_checked}
use Rattle.gp_deadlock_checker.proofs.checking.check_windows.Goals as goal

pub loop-window-init : goal.loop-window-init
loop-window-init c = none_checked (AcceptsWindow c.args.report.now.budget) (FailsWindow c.args.report.now.budget) c.args.recording.now c.args.report.now.windows c.args.left.now c.requires

pub returns-in-Some-2 : goal.returns-in-Some-2
returns-in-Some-2 c =
    let r = c.args.recording.now in
    let report = c.args.report.now in
    let first : c.loop-window.left ≡ c.in-Some.window ∷ c.next.new.self = subst (λ window. TakesFirst c.loop-window.left window c.next.new.self) c.in-Some.is c.in_ok-window.ensures in
    window_rejected (AcceptsWindow report.budget) (FailsWindow report.budget) r report.windows c.loop-window.left c.next.new.self c.in-Some.window c.in-Some-2.failure c.loop-window.invariant first
    (subst (FindsAt report c.in-Some.window) c.in-Some-2.is c.in_ok-failure.ensures)

pub loop-window-preserved : goal.loop-window-preserved
loop-window-preserved c =
    let r = c.args.recording.now in
    let report = c.args.report.now in
    let first : c.loop-window.left ≡ c.in-Some.window ∷ c.next.new.self = subst (λ window. TakesFirst c.loop-window.left window c.next.new.self) c.in-Some.is c.in_ok-window.ensures in
    window_accepted (AcceptsWindow report.budget) (FailsWindow report.budget) r report.windows c.loop-window.left c.next.new.self c.in-Some.window c.loop-window.invariant first
    (subst (FindsAt report c.in-Some.window) c.in_default-2.is c.in_ok-failure.ensures)

pub returns : goal.returns
returns c =
    whole_checked c.args.recording.now c.args.report.now c.at_end.result
    (all_checked (AcceptsWindow c.args.report.now.budget) (FailsWindow c.args.report.now.budget) c.args.recording.now c.args.report.now.windows c.loop-window.left c.epochs.result c.at_end.result (length c.windows.result.now) c.loop-window.invariant
    (subst (λ window. TakesFirst c.loop-window.left window c.next.new.self) c.in_default.is c.in_ok-window.ensures).0 (c.epochs.ensures.value ∙ ap (λ m. m.epochs) c.manifest.ensures.value)
    (ap (λ (all : List WindowRecord). length all) c.windows.ensures.value) c.at_end.ensures.last c.at_end.ensures.more)
