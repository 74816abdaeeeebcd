use Rattle.gp_certificate.proofs.Checking.{certificates}
use Rattle.gp_certificate.proofs.certificate.certificate_follows.Goals as goal

pub returns : goal.returns
returns c =
    certificates
    (record {
      derived = c.derived_means.ensures;
      bounds = c.bounds_mean.ensures;
      cycles = c.keeping_leaves_no_cycle.ensures;
      cases = c.true_or_false.ensures;
    })
    c.locals_change_nothing.ensures
