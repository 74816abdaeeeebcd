use Rattle.std.proofs.Common.{ap, ◌∙◌}
use Rattle.gp_certificate.specs.Bench.{BenchForm}
use Rattle.gp_certificate.proofs.Readying.{ready_cut}
use Rattle.gp_certificate.proofs.bench.Bench.unload.Goals as goal

pub invariant_of-self : goal.invariant_of-self
invariant_of-self c = ready_cut c.self.inside c.truncate.new.self c.args.count c.self.invariant (ap (λ (v : BenchForm). v.assumed) c.self.view_is ∙ c.requires) c.truncate.ensures
