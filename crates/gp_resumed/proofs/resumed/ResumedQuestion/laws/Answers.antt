use Rattle.std.proofs.Common.{subst, All}
use Rattle.gp_property.specs.Property.{IsProperty}
use Rattle.gp_resumed.proofs.Lawful.{is_lawful}
use Rattle.gp_resumed.proofs.resumed.ResumedQuestion.laws.Goals as goal

pub returns : goal.returns
returns g c =
    is_lawful g.N.Naming.properties g.N.Naming.old c.args.self.now.few (subst (All IsProperty) c.args.self.now.properties_are c.keep_rules.ensures) c.problems_are_valid.ensures c.atoms_kept.ensures
    c.schedules_are_complete.ensures c.refuted_over_means.ensures c.kept_holds.ensures
