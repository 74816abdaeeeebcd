-- What is recorded of all windows in the compact form is the compact form of a report, which answers the recording.
use Rattle.std.proofs.Common.{sym, subst, ◌*◌, ◌≤◌, ℕ, List}
use Rattle.gp_property.specs.PropertyForm.{PropertyForm}
use Rattle.gp_window.specs.Windows.{all_windows}
use Rattle.gp_analysis.specs.Recorded.{CompactEach}
use Rattle.gp_analysis.specs.Tickets as ticket
use Rattle.gp_patterns.specs.CompactAnswer.{IsCompactAnswer}
use Rattle.gp_patterns.specs.Question.{patterns}
use Rattle.gp_patterns.proofs.Compact.{are_compact}
use Rattle.gp_patterns.proofs.Same.{total_same}
use Rattle.gp_patterns.proofs.analysing.analyse_compact.Goals as goal

pub analyse_compact-requires-clause-limit : goal.analyse_compact-requires-clause-limit
analyse_compact-requires-clause-limit g c _ _ =
    let r = c.args.recording.now in
    let properties = c.args.properties.now in
    subst (λ (ps : List PropertyForm). ticket.asked_total (patterns ps) r * c.args.budget ≤ 1000000) (sym c.of-question.ensures)
    (subst (λ (n : ℕ). n * c.args.budget ≤ 1000000) (sym (total_same r properties)) c.requires.limit)

pub new-requires : goal.new-requires
new-requires g c =
    let each = subst (λ (ps : List PropertyForm). CompactEach (patterns ps) c.args.workers c.args.budget (all_windows c.args.recording.now) c.in_ok-windows.windows) c.of-question.ensures c.in_ok-windows.ensures in
    (are_compact c.args.properties.now c.args.workers c.args.budget c.args.recording.now c.in_ok-windows.windows c.requires.budget c.requires.most each).report

pub returns : goal.returns
returns g c =
    let r = c.args.recording.now in
    let properties = c.args.properties.now in
    let each = subst (λ (ps : List PropertyForm). CompactEach (patterns ps) c.args.workers c.args.budget (all_windows c.args.recording.now) c.in_ok-windows.windows) c.of-question.ensures c.in_ok-windows.ensures in
    subst (IsCompactAnswer r properties c.args.workers c.args.budget) (sym c.new.ensures)
    (are_compact properties c.args.workers c.args.budget r c.in_ok-windows.windows c.requires.budget c.requires.most each).answers
