use Rattle.std.proofs.Common.{◌+◌, arith}
use Rattle.gp_sat.proofs.Ranging.{range_made}
use Rattle.gp_sat.proofs.store.range_of.Goals as goal

pub returns : goal.returns
returns c = range_made c.args.total c.args.begins.now c.args.number (c.args.number + 1) c.place.result c.end_before-end.result c.is_attached.result _ c.requires (omega arith) c.place.ensures c.end_before-end.ensures c.is_attached.ensures
