use Rattle.std.proofs.Common.{◌∙◌, length, arith}
use Rattle.gp_sat.proofs.Ranging.{begin_within, attached_read}
use Rattle.gp_sat.proofs.store.Store.is_attached.Goals as goal

pub index-requires : goal.index-requires
index-requires c = omega (
  arith,
  begin_within c.self.inside.literals.items (length c.self.inside.literals.items) c.self.inside.begins.items c.args.self.now c.args.number c.self.view_is c.requires,
  c.self.inside.begins.ok.0,
)

pub returns : goal.returns
returns c =
    c.is_attached.ensures
    ∙ attached_read c.self.inside.literals.items (length c.self.inside.literals.items) c.self.inside.begins.items c.args.self.now c.args.number c.index.result.now c.self.view_is c.requires c.index.ensures
