use Rattle.std.proofs.Common.{subst, None, List, get_or, take, false}
use Rattle.std.proofs.lemmas.List.{take_all}
use Rattle.gp_clause.specs.declared.lit.Lit.{Lit}
use Rattle.gp_sat.specs.Choosing.{IsBest}
use Rattle.gp_sat.proofs.Choosing.{best_step}
use Rattle.gp_sat.proofs.pending.highest.Goals as goal

abbrev d : Lit
d = record { variable = 0; positive = false }

pub loop-lit-preserved : goal.loop-lit-preserved
loop-lit-preserved c = best_step (λ v. get_or c.args.values.now v None) c.args.lits.now c.loop-lit.lit-index d c.args.one c.better-best.result c.loop-lit-test.true
    (c.better-best.ensures (take c.loop-lit.lit-index c.args.lits.now) c.loop-lit.invariant)

pub returns : goal.returns
returns c = subst (λ (xs : List Lit). IsBest (λ v. get_or c.args.values.now v None) xs c.args.one c.loop-lit.best)
    (take_all c.loop-lit.lit-index c.args.lits.now c.loop-lit-test.false) c.loop-lit.invariant
