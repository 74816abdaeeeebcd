use Rattle.gp_bridge_rows.proofs.Means.{happens_means}
use Rattle.gp_bridge_rows.proofs.laws.happens_means.Goals as goal

pub returns : goal.returns
returns c = happens_means c.extensions_mean.ensures c.valuations_meet.ensures
