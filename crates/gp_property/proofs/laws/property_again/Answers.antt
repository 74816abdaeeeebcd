use Rattle.gp_property.proofs.PropertyAgain.{property_again_lem}
use Rattle.gp_property.proofs.laws.property_again.Goals as goal

pub returns : goal.returns
returns c = property_again_lem c.one_spelling.ensures c.plain_words.ensures c.reads_again.ensures
