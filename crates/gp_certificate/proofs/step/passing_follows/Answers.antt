use Rattle.gp_certificate.proofs.Passing.{passing}
use Rattle.gp_certificate.proofs.step.passing_follows.Goals as goal

pub returns : goal.returns
returns c = passing (record {
  derived = c.derived_means.ensures;
  bounds = c.bounds_mean.ensures;
  cycles = c.keeping_leaves_no_cycle.ensures;
  cases = c.true_or_false.ensures;
})
