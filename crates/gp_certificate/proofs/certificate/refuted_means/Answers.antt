use Rattle.gp_certificate.proofs.Checking.{refuting}
use Rattle.gp_certificate.proofs.certificate.refuted_means.Goals as goal

pub returns : goal.returns
returns c = refuting (record {
  derived = c.derived_means.ensures;
  bounds = c.bounds_mean.ensures;
  cycles = c.keeping_leaves_no_cycle.ensures;
  cases = c.true_or_false.ensures;
})
