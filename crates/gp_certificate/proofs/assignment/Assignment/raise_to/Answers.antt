use Rattle.std.proofs.Common.{rules, sym, subst}
use Rattle.gp_certificate.specs.declared.assignment.Assignment.{Assignment}
use Rattle.gp_certificate.specs.Assignment.{IsKept}
use Rattle.gp_certificate.proofs.Propagating.{kept_with}
use Rattle.gp_certificate.proofs.assignment.Assignment.raise_to.Goals as goal

pub loop-self-preserved : goal.loop-self-preserved
loop-self-preserved c = (
  subst (λ (a : Assignment). IsKept a) (sym c.rise.ensures.cursor) (kept_with c.loop-self.self _ c.loop-self.invariant.0),
  search rules,
  search rules,
  search rules,
  c.rise.ensures.exact,
)
