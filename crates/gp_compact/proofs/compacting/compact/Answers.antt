use Rattle.std.proofs.Common.{◌≡◌, ap, sym, subst, ◌∙◌, ℕ, List}
use Rattle.gp_report.specs.Records.{WindowRecord}
use Rattle.gp_report.specs.Report.{IsReport}
use Rattle.gp_window.specs.Windows.{all_windows}
use Rattle.gp_compact.specs.Compact.{compacted_windows}
use Rattle.gp_compact.specs.ToldLaws.{report_told}
use Rattle.gp_compact.proofs.compacting.compact.Goals as goal

pub new-requires : goal.new-requires
new-requires c =
    let windows : c.in_ok-windows.windows ≡ compacted_windows (all_windows c.args.recording.now) c.args.report.windows =
    c.in_ok-windows.ensures ∙ ap (compacted_windows (all_windows c.args.recording.now)) c.into_windows.ensures in
    subst (λ (budget : ℕ). IsReport (record { format = 2; budget = budget; windows = c.in_ok-windows.windows })) (sym c.budget-budget.ensures.value)
    (subst (λ (made : List WindowRecord). IsReport (record { format = 2; budget = c.args.report.budget; windows = made })) (sym windows) (report_told c.args.recording.now c.args.report c.budget-budget.ensures.report))
