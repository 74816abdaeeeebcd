use Rattle.gp_certificate.proofs.Sharing.{refuting_over}
use Rattle.gp_certificate.proofs.shared.refuted_over_means.Goals as goal

pub returns : goal.returns
returns c = refuting_over (record {
  derived = c.derived_means.ensures;
  bounds = c.bounds_mean.ensures;
  cycles = c.keeping_leaves_no_cycle.ensures;
  cases = c.true_or_false.ensures;
})
