use Rattle.std.proofs.Common.{ap, List, length, arith}
use Rattle.gp_sat.specs.Stored.{Stored}
use Rattle.gp_sat.proofs.Ranging.{length_stored}
use Rattle.gp_sat.proofs.store.Store.len.Goals as goal

pub returns : goal.returns
returns c = omega (
  arith,
  c.len.ensures,
  c.self.inside.begins.ok.0,
  length_stored c.self.inside.literals.items (length c.self.inside.literals.items) c.self.inside.begins.items,
  ap (λ (xs : List Stored). length xs) c.self.view_is,
)
