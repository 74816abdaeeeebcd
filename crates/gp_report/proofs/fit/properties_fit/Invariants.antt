use Rattle.std.proofs.Common.{drop, All}
use Rattle.gp_report.specs.Records.{Entry}
use Rattle.gp_report.specs.Entries.{entries_among}
use Rattle.gp_report.specs.Telling.{HasClauses}
use Rattle.gp_report.specs.Typed.{IsTypedProperty}
use Rattle.gp_report.proofs.fit.properties_fit.Given as goal

abbrev pub invariant-loop-property : goal.invariant-loop-property
invariant-loop-property l =
    (All IsTypedProperty (drop l.property-index l.properties) → All IsTypedProperty l.properties)
    × (All (λ (entry : Entry). HasClauses entry.answer) (entries_among (drop l.property-index l.properties)) → All (λ (entry : Entry). HasClauses entry.answer) (entries_among l.properties))
