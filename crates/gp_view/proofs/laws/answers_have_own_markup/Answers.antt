use Rattle.gp_view.proofs.OwnMarkup.{answered_own}
use Rattle.gp_view.proofs.laws.answers_have_own_markup.Goals as goal

pub returns : goal.returns
returns c = λ beside answered. answered_own c.drawings_have_own_markup.ensures beside answered
