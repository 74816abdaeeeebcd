use Rattle.std.proofs.Common.{◌≡◌, drop, Bool}
use Rattle.std.specs.Prelude.{◌==◌, ◌&&◌, not, find}
use Rattle.gp_clause.specs.Valuation.{truth_of}
use Rattle.gp_constraint.specs.declared.symbol.Symbol.TheVariants.{Signal}
use Rattle.gp_constraint.specs.Numbering.{number_of}
use Rattle.gp_constraint.specs.declared.point.Point.{Point}
use Rattle.gp_notify.proofs.pairing.first_taken.Given as goal

abbrev pub invariant-loop-g : goal.invariant-loop-g
invariant-loop-g l =
    let test : Point → Bool = λ g. not (g.id.thread == l.w.id.thread) && truth_of l.valuation (number_of l.extension.names (Signal l.w.number g.number)) in
    find test (drop l.g-index l.signals) ≡ find test l.signals
