-- What is recorded of all windows is a report, which answers the recording.
use Rattle.std.proofs.Common.{refl, sym, subst, ◌*◌, ◌≤◌, ℕ, List, inl}
use Rattle.gp_property.specs.PropertyForm.{PropertyForm}
use Rattle.gp_window.specs.Windows.{all_windows}
use Rattle.gp_analysis.specs.Recorded.{RecordEach}
use Rattle.gp_analysis.specs.RecordedLaws.{all_answered, is_report}
use Rattle.gp_analysis.specs.Tickets as ticket
use Rattle.gp_patterns.specs.Answered.{IsAnswered}
use Rattle.gp_patterns.specs.Question.{patterns}
use Rattle.gp_patterns.proofs.Same.{total_same, windows_there}
use Rattle.gp_patterns.proofs.analysing.analyse.Goals as goal

pub analyse-requires-clause-limit : goal.analyse-requires-clause-limit
analyse-requires-clause-limit g c _ _ =
    let r = c.args.recording.now in
    let properties = c.args.properties.now in
    subst (λ (ps : List PropertyForm). ticket.asked_total (patterns ps) r * c.args.budget ≤ 1000000) (sym c.of-question.ensures)
    (subst (λ (n : ℕ). n * c.args.budget ≤ 1000000) (sym (total_same r properties)) c.requires.limit)

pub new-requires : goal.new-requires
new-requires g c =
    let each = subst (λ (ps : List PropertyForm). RecordEach (patterns ps) c.args.workers c.args.budget (all_windows c.args.recording.now) c.in_ok-windows.windows) c.of-question.ensures c.in_ok-windows.ensures in
    is_report (patterns c.args.properties.now) c.args.workers c.args.budget 1 c.args.recording.now c.in_ok-windows.windows (inl refl) (λ one window. refl) c.requires.budget c.requires.most each

pub returns-clause-answered : goal.returns-clause-answered
returns-clause-answered g c =
    let r = c.args.recording.now in
    let properties = c.args.properties.now in
    let windows = c.in_ok-windows.windows in
    let each = subst (λ (ps : List PropertyForm). RecordEach (patterns ps) c.args.workers c.args.budget (all_windows c.args.recording.now) c.in_ok-windows.windows) c.of-question.ensures c.in_ok-windows.ensures in
    let answered = all_answered (patterns properties) c.args.workers c.args.budget r windows each in
    subst (IsAnswered r properties c.args.workers c.args.budget) (sym c.new.ensures)
    (record { same_budget = refl; windows = windows_there properties c.args.workers c.args.budget (all_windows r) windows answered })
