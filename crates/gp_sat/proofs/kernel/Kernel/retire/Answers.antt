use Rattle.std.proofs.Common.{refl, sym, ◌∙◌, ap, subst, false, List}
use Rattle.std.specs.Prelude.{slice_set}
use Rattle.gp_sat.specs.Stored.{Stored}
use Rattle.gp_sat.specs.State.{clause_at}
use Rattle.gp_sat.specs.Consistent.{IsConsistent}
use Rattle.gp_sat.proofs.Storing.{sound_retired}
use Rattle.gp_sat.proofs.Consisting.{consistent_clauses}
use Rattle.std.specs.Vec.{vec_capacity}
use Rattle.gp_sat.specs.State.{SolverForm}
use Rattle.gp_sat.proofs.kernel.Kernel.retire.Goals as goal

pub invariant_of-self : goal.invariant_of-self
invariant_of-self c = subst (λ (cs : List Stored). IsConsistent (record { values = c.self.inside.values; trail = c.self.inside.trail.items; clauses = cs; level = c.self.inside.level; order = c.self.inside.queue; used = c.self.inside.used }) c.self.inside.starts.items c.self.inside.place (vec_capacity c.self.inside.trail) (vec_capacity c.self.inside.starts)) (sym c.detach.ensures)
    (consistent_clauses (record { values = c.self.inside.values; trail = c.self.inside.trail.items; clauses = c.self.inside.clauses; level = c.self.inside.level; order = c.self.inside.queue; used = c.self.inside.used }) (slice_set c.self.inside.clauses c.args.number (record { clause = clause_at c.self.inside.clauses c.args.number; attached = false })) c.self.inside.starts.items c.self.inside.place (vec_capacity c.self.inside.trail) (vec_capacity c.self.inside.starts)
    (sound_retired (record { values = c.self.inside.values; trail = c.self.inside.trail.items; clauses = c.self.inside.clauses; level = c.self.inside.level; order = c.self.inside.queue; used = c.self.inside.used }) c.args.number (clause_at c.self.inside.clauses c.args.number) refl (ap (λ (s : SolverForm). s.level) c.self.view_is ∙ c.requires.bottom) c.self.invariant.sound) c.self.invariant)
