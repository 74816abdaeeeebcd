use Rattle.std.proofs.Common.{length, arith}
use Rattle.gp_sat.proofs.Ranging.{begin_within}
use Rattle.gp_sat.proofs.store.Store.is_pair.Goals as goal

pub range_of-range-requires : goal.range_of-range-requires
range_of-range-requires c = omega (
  arith,
  begin_within c.self.inside.literals.items (length c.self.inside.literals.items) c.self.inside.begins.items c.args.self.now c.args.number c.self.view_is c.requires,
  c.deref.ensures.len,
  c.self.inside.begins.ok.0,
)
