use Rattle.std.proofs.Common.{drop, All}
use Rattle.gp_report.specs.Records.{Entry}
use Rattle.gp_report.specs.Telling.{HasClauses}
use Rattle.gp_report.specs.Typed.{IsTypedEntry}
use Rattle.gp_report.proofs.fit.entries_fit.Given as goal

abbrev pub invariant-loop-entry : goal.invariant-loop-entry
invariant-loop-entry l =
    (All IsTypedEntry (drop l.entry-index l.entries) → All IsTypedEntry l.entries)
    × (All (λ (entry : Entry). HasClauses entry.answer) (drop l.entry-index l.entries) → All (λ (entry : Entry). HasClauses entry.answer) l.entries)
