use Rattle.std.proofs.Common.{drop, All}
use Rattle.gp_report.specs.Typed.{IsTypedId}
use Rattle.gp_report.proofs.fit.ids_fit.Given as goal

abbrev pub invariant-loop-id : goal.invariant-loop-id
invariant-loop-id l = All IsTypedId (drop l.id-index l.ids) → All IsTypedId l.ids
