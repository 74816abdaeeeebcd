use Rattle.std.proofs.Common.{arith}
use Rattle.gp_cases.proofs.Bounds.{all_below, none, one_more}
use Rattle.gp_cases.proofs.encodings.executing.keep_bounds.Goals as goal

pub loop-variable-init : goal.loop-variable-init
loop-variable-init c = none c.args.valuation.now c.args.kinds.now

pub loop-variable-preserved : goal.loop-variable-preserved
loop-variable-preserved c =
    one_more c.args.valuation.now c.args.kinds.now c.loop-variable.variable _ _ c.truth_of.ensures (c.keeps_bound.ensures c.if-not-keeps_bound.false) c.loop-variable.invariant

pub returns : goal.returns
returns c = λ _. all_below c.args.valuation.now c.args.kinds.now c.loop-variable.variable (omega (arith, c.loop-variable-test.false, c.loop-variable.auto.variable-end)) c.loop-variable.invariant
