use Rattle.gp_patterns.proofs.Lawful.{is_lawful}
use Rattle.gp_patterns.proofs.patterns.PatternsQuestion.laws.Goals as goal

pub returns : goal.returns
returns c =
    is_lawful c.args.self.now.properties.now c.args.self.now.few c.keep_rules.ensures c.problems_are_valid.ensures c.atoms_kept.ensures c.schedules_are_complete.ensures
