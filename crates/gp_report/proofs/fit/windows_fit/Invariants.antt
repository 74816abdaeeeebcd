use Rattle.std.proofs.Common.{drop, All}
use Rattle.gp_report.specs.Records.{Entry, WindowRecord}
use Rattle.gp_report.specs.Entries.{entries_of}
use Rattle.gp_report.specs.Telling.{HasClause, HasClauses}
use Rattle.gp_report.specs.Typed.{IsTypedWindow}
use Rattle.gp_report.proofs.fit.windows_fit.Given as goal

abbrev pub invariant-loop-window : goal.invariant-loop-window
invariant-loop-window l =
    (All IsTypedWindow (drop l.window-index l.windows) → All IsTypedWindow l.windows)
    × (All (λ (window : WindowRecord). All HasClause window.shared) (drop l.window-index l.windows) → All (λ (window : WindowRecord). All HasClause window.shared) l.windows)
    × (All (λ (entry : Entry). HasClauses entry.answer) (entries_of (drop l.window-index l.windows)) → All (λ (entry : Entry). HasClauses entry.answer) (entries_of l.windows))
