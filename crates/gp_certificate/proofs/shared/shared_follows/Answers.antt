use Rattle.gp_certificate.proofs.Sharing.{sharing_follows}
use Rattle.gp_certificate.proofs.shared.shared_follows.Goals as goal

pub returns : goal.returns
returns c = sharing_follows (record {
  derived = c.derived_means.ensures;
  bounds = c.bounds_mean.ensures;
  cycles = c.keeping_leaves_no_cycle.ensures;
  cases = c.true_or_false.ensures;
})
