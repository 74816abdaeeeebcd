use Rattle.gp_drawing.proofs.OwnMarkup.{drawings_own}
use Rattle.gp_drawing.proofs.laws.drawings_have_own_markup.Goals as goal

pub returns : goal.returns
returns c = drawings_own
