use Rattle.std.proofs.Common.{◌≤◌, length, subst}
use Rattle.gp_workers.specs.declared.desk.Desk.{Desk}
use Rattle.gp_workers.specs.Desk.{taken_of}
use Rattle.gp_workers.proofs.DeskTaken.{few_taken}
use Rattle.gp_workers.proofs.mail.WorkerMailBoundedMail.gives_few.Goals as goal

pub returns-clause-few : goal.returns-clause-few
returns-clause-few g c = subst (λ (desk : Desk). length (taken_of desk) ≤ 15360) c.self.view_is (few_taken c.self.inside.desk c.self.invariant.0)
