use Rattle.std.proofs.Common.{rules, List, Vec, Global, ℕ, ap, ◌∙◌}
use Rattle.gp_certificate.specs.Rows.{row_of}
use Rattle.gp_certificate.proofs.Rowing.{row_added}
use Rattle.gp_certificate.proofs.loaded.add_rows.Goals as goal

pub returns-in_err-push-clause-same : goal.returns-in_err-push-clause-same
returns-in_err-push-clause-same c = λ lit. ap (λ (rows : List (Vec ℕ Global)). row_of rows lit) c.in_err-push.ensures.items ∙ c.loop-row.invariant.2 lit

pub loop-row-preserved : goal.loop-row-preserved
loop-row-preserved c = (
  search rules,
  search rules,
  λ lit. ap (λ (rows : List (Vec ℕ Global)). row_of rows lit) c.in_ok-push.ensures.items ∙ row_added c.loop-row.rows.items c.new.result lit (search rules) ∙ c.loop-row.invariant.2 lit,
)
