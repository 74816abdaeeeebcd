use Rattle.std.proofs.Common.{None, ◌∙◌, sym, ap, subst, ℕ, length}
use Rattle.std.proofs.lemmas.List.{length-replicate}
use Rattle.gp_sat.specs.State.{SolverForm}
use Rattle.gp_sat.specs.Stepping.{IsReady}
use Rattle.gp_sat.specs.Queueing.{AreClear}
use Rattle.gp_sat.proofs.Outer.{ready_blank}
use Rattle.gp_sat.proofs.solver.Solver.new.Goals as goal

pub invariant_of-result : goal.invariant_of-result
invariant_of-result c = record {
  ready = subst (λ (s : SolverForm). IsReady s c.in-Ok.watches) (sym c.in_ok-kernel.ensures) (ready_blank c.args.variables c.in-Ok.watches c.ranges.variables.fits c.in-Ok.ensures.watches);
  clear = subst (λ (n : ℕ). AreClear n c.in-Ok.marking) (sym (ap (λ (s : SolverForm). length s.values) c.in_ok-kernel.ensures ∙ length-replicate c.args.variables None)) c.in-Ok.ensures.marking;
}
