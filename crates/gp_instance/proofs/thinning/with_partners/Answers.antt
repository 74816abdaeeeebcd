-- What may have a partner among those that count keeps each event that has one.
use Rattle.gp_instance.proofs.Held.{pairs_kept}
use Rattle.gp_instance.proofs.thinning.with_partners.Goals as goal

pub returns : goal.returns
returns c = pairs_kept _ _ _ _ _ _ _ _ c.across.ensures c.in_ok-partners.ensures c.pairable.ensures
