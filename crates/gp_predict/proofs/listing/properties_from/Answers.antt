use Rattle.gp_predict.proofs.Counted.{few}
use Rattle.gp_predict.proofs.listing.properties_from.Goals as goal

pub returns-in-Ok-clause-few : goal.returns-in-Ok-clause-few
returns-in-Ok-clause-few c = few c.reads_exactly.ensures c.args.bytes.now c.in-Ok.properties c.in-Ok.ensures.exact
