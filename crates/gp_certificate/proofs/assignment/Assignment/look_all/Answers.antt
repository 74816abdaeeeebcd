use Rattle.gp_certificate.proofs.Propagating.{looking_none, looking_more, looking_all}
use Rattle.gp_certificate.proofs.assignment.Assignment.look_all.Goals as goal

pub returns-then-look_at-clause-closing : goal.returns-then-look_at-clause-closing
returns-then-look_at-clause-closing c = λ start closing. c.look_at.ensures.closing start (c.loop-number.invariant.closing start closing)

pub returns-then-look_at-clause-gives : goal.returns-then-look_at-clause-gives
returns-then-look_at-clause-gives c = λ start closing. c.if-look_at.ensures.gives start (c.loop-number.invariant.closing start closing)

pub loop-number-init : goal.loop-number-init
loop-number-init c = looking_none c.args.loaded.now c.args.self.now c.args.numbers.now c.requires.kept

pub loop-number-preserved : goal.loop-number-preserved
loop-number-preserved c =
    looking_more c.args.loaded.now c.args.self.now c.loop-number.self c.look_at.new.self c.args.numbers.now c.loop-number.number-index 0 c.loop-number-test.true c.look_at.ensures.extends c.look_at.ensures.closing
    c.look_at.ensures.cursor c.if-look_at.ensures.gives c.loop-number.invariant

pub returns-clause-gives : goal.returns-clause-gives
returns-clause-gives c = looking_all c.args.loaded.now c.args.self.now c.loop-number.self c.args.numbers.now c.loop-number.number-index c.loop-number-test.false c.loop-number.invariant
