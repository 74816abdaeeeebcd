use Rattle.gp_show.proofs.Markup.{pages_own}
use Rattle.gp_show.proofs.laws.pages_have_own_markup.Goals as goal

pub returns : goal.returns
returns c = pages_own c.drawings_have_own_markup.ensures c.overviews_have_own_markup.ensures c.answers_have_own_markup.ensures
