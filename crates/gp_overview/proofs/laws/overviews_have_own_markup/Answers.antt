use Rattle.gp_overview.proofs.OwnMarkup.{overviews_own}
use Rattle.gp_overview.proofs.laws.overviews_have_own_markup.Goals as goal

pub returns : goal.returns
returns c = overviews_own
