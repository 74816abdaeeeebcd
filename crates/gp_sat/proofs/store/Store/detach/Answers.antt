use Rattle.std.proofs.Common.{◌∙◌, ap, false, List, length, arith}
use Rattle.std.specs.Prelude.{slice_set}
use Rattle.gp_sat.specs.Stored.{Stored}
use Rattle.gp_sat.specs.State.{clause_at}
use Rattle.gp_sat.proofs.Ranging.{begin_within, kept_detached, detached}
use Rattle.gp_sat.proofs.store.Store.detach.Goals as goal

pub index_mut-requires : goal.index_mut-requires
index_mut-requires c = omega (
  arith,
  begin_within c.self.inside.literals.items (length c.self.inside.literals.items) c.self.inside.begins.items c.args.self.now c.args.number c.self.view_is c.requires,
  c.self.inside.begins.ok.0,
)

pub invariant_of-self : goal.invariant_of-self
invariant_of-self c =
    kept_detached c.self.inside.literals.items (length c.self.inside.literals.items) c.self.inside.begins.items c.args.number c.index_mut.result.now c.detach.new.self c.index_mut.ensures.value c.detach.ensures c.self.invariant

pub returns : goal.returns
returns c =
    detached c.self.inside.literals.items (length c.self.inside.literals.items) c.self.inside.begins.items c.args.number c.index_mut.result.now c.detach.new.self c.index_mut.ensures.value c.detach.ensures
    ∙ ap (λ (xs : List Stored). slice_set xs c.args.number (record { clause = clause_at xs c.args.number; attached = false })) c.self.view_is
