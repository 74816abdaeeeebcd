use Rattle.std.proofs.Common.{get_or, below_more}
use Rattle.gp_sat.proofs.Queueing.{unmarked_one, unmarked_kept}
use Rattle.gp_sat.proofs.marking.unmark_all.Goals as goal

pub loop-variable-preserved : goal.loop-variable-preserved
loop-variable-preserved c = record {
  gone = below_more _ _ (λ k below is. c.loop-variable.invariant.gone k below (unmarked_kept c.loop-variable.marks (get_or c.args.variables.now c.loop-variable.variable-index 0) (get_or c.args.variables.now k 0) is))
      (unmarked_one c.loop-variable.marks (get_or c.args.variables.now c.loop-variable.variable-index 0));
  kept = λ v is. c.loop-variable.invariant.kept v (unmarked_kept c.loop-variable.marks (get_or c.args.variables.now c.loop-variable.variable-index 0) v is);
}
