use Rattle.std.proofs.Common.{rules}
use Rattle.gp_certificate.proofs.Bounding.{bounded_none, bounded_all, skip_at, kept_at, cycle_at}
use Rattle.gp_certificate.proofs.places.add_bounds.Goals as goal

pub loop-lit-init : goal.loop-lit-init
loop-lit-init c = bounded_none c.args.kinds.now c.args.lits.now c.args.graph.now c.requires.acyclic

pub loop-lit-preserved-in_default : goal.loop-lit-preserved-in_default
loop-lit-preserved-in_default c =
    skip_at c.args.kinds.now c.args.lits.now c.loop-lit.lit-index _ _ c.bound.result c.args.graph.now c.loop-lit.graph c.loop-lit-test.true c.requires.within c.bound.ensures (search rules) c.loop-lit.invariant

pub returns-in-Cycle-clause-gives : goal.returns-in-Cycle-clause-gives
returns-in-Cycle-clause-gives c =
    cycle_at c.args.kinds.now c.args.lits.now c.loop-lit.lit-index _ _ c.bound.result c.in-Some.edge c.args.graph.now c.loop-lit.graph c.assert.new.self c.loop-lit-test.true c.requires.within c.bound.ensures c.in-Some.is
    c.in-Cycle.ensures c.loop-lit.invariant

pub loop-lit-preserved : goal.loop-lit-preserved
loop-lit-preserved c =
    kept_at c.args.kinds.now c.args.lits.now c.loop-lit.lit-index _ _ c.bound.result c.in-Some.edge c.args.graph.now c.loop-lit.graph c.assert.new.self c.loop-lit-test.true c.requires.within c.bound.ensures c.in-Some.is
    c.requires.room c.in-Kept.ensures c.loop-lit.invariant

pub returns-clause-gives : goal.returns-clause-gives
returns-clause-gives c = bounded_all c.args.kinds.now c.args.lits.now c.loop-lit.lit-index c.args.graph.now c.loop-lit.graph c.loop-lit-test.false c.loop-lit.invariant
