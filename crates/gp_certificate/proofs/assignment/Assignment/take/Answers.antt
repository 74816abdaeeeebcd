use Rattle.gp_certificate.proofs.Propagating.{taking_none, taking_more, taking_among, taking_all}
use Rattle.gp_certificate.proofs.assignment.Assignment.take.Goals as goal

pub loop-lit-init : goal.loop-lit-init
loop-lit-init c = taking_none c.args.self.now c.args.lits.now c.requires.kept

pub returns-then-is_true-clause-among : goal.returns-then-is_true-clause-among
returns-then-is_true-clause-among c = taking_among c.args.self.now c.loop-lit.self c.args.lits.now c.loop-lit.lit-index c.loop-lit.invariant

pub loop-lit-preserved : goal.loop-lit-preserved
loop-lit-preserved c =
    taking_more c.args.self.now c.loop-lit.self c.make_false.new.self c.args.lits.now c.loop-lit.lit-index _ c.loop-lit-test.true c.make_false.ensures.extends c.make_false.ensures.cursor c.make_false.ensures.falls
    c.make_false.ensures.among c.loop-lit.invariant

pub returns-clause-among : goal.returns-clause-among
returns-clause-among c = taking_among c.args.self.now c.loop-lit.self c.args.lits.now c.loop-lit.lit-index c.loop-lit.invariant

pub returns-clause-gives : goal.returns-clause-gives
returns-clause-gives c = taking_all c.args.self.now c.loop-lit.self c.args.lits.now c.loop-lit.lit-index c.loop-lit-test.false c.loop-lit.invariant
