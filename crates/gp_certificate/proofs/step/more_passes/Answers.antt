use Rattle.gp_certificate.specs.PassingLaws.{more_pass}
use Rattle.gp_certificate.proofs.step.more_passes.Goals as goal

pub returns : goal.returns
returns c = more_pass
