use Rattle.std.proofs.Common.{◌++◌, ◌+◌, drop, replicate, refl, ◌∙◌}
use Rattle.gp_certificate.specs.Rows.{occurs}
use Rattle.gp_certificate.proofs.Rowing.{unlisting_more, unlisted_all}
use Rattle.gp_certificate.proofs.loaded.unlist.Goals as goal

pub loop-lit-init : goal.loop-lit-init
loop-lit-init c = (refl, λ base number before. before)

pub loop-lit-preserved : goal.loop-lit-preserved
loop-lit-preserved c = (
  c.unnote.ensures.size ∙ c.loop-lit.invariant.0,
  λ base number before.
      c.unnote.ensures.before (λ one. base one ++ replicate (occurs one (drop (c.loop-lit.lit-index + 1) c.args.lits.now)) number) number
      (λ one. c.loop-lit.invariant.1 base number before one ∙ unlisting_more (base one) one c.args.lits.now c.loop-lit.lit-index _ number c.loop-lit-test.true),
)

pub returns-clause-before : goal.returns-clause-before
returns-clause-before c = λ base number before one.
    c.loop-lit.invariant.1 base number before one ∙ unlisted_all (base one) one c.args.lits.now c.loop-lit.lit-index number c.loop-lit-test.false
