use Rattle.std.proofs.Common.{subst, List}
use Rattle.gp_instance.specs.ListedLaws.{IsListed}
use Rattle.gp_property.specs.PropertyForm.{PropertyForm}
use Rattle.gp_analysis.specs.Question.{IsLawful}
use Rattle.gp_patterns.specs.Question.{patterns}
use Rattle.gp_notified.proofs.Lawful.{is_lawful}
use Rattle.gp_notified.proofs.notified.NotifiedQuestion.laws.Goals as goal

pub returns : goal.returns
returns c =
    let plain = subst (λ (ps : List PropertyForm). IsLawful (patterns ps) IsListed) c.of.ensures c.laws.ensures in
    is_lawful c.args.self.now.properties.now plain c.extended_is_valid.ensures c.signals_are_answered.ensures
