use Rattle.std.proofs.Common.{ℕ, ◌-◌, ◌∙◌, arith, sym}
use Rattle.gp_notify.specs.Sleeping.{slept_at}
use Rattle.gp_notify.proofs.Looking.{begins_at}
use Rattle.gp_notify.proofs.sleeping.slept_at.Goals as goal

pub returns-in-Some : goal.returns-in-Some
returns-in-Some c =
    let index : ℕ = c.loop-index.index - 1 in
    sym (c.in-Some.ensures (slept_at c.args.condition.now c.args.events.now index))
    ∙ sym (begins_at c.args.condition.now c.args.events.now index c.loop-index.index (omega (arith, c.loop-index-test.true)))
    ∙ c.loop-index.invariant

pub loop-index-preserved : goal.loop-index-preserved
loop-index-preserved c =
    let index : ℕ = c.loop-index.index - 1 in
    sym (c.in_default.ensures (slept_at c.args.condition.now c.args.events.now index))
    ∙ sym (begins_at c.args.condition.now c.args.events.now index c.loop-index.index (omega (arith, c.loop-index-test.true)))
    ∙ c.loop-index.invariant
