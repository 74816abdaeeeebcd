use Rattle.std.proofs.Common.{sym, subst, ◌+◌, ◌<◌, ◌^◌, true, List, [], ◌∷◌, ◌++◌, length}
use Rattle.gp_clause.specs.Clause.{NamesBelow}
use Rattle.gp_sat.specs.Stored.{Stored}
use Rattle.gp_sat.specs.Changes.{MayAttach}
use Rattle.gp_sat.specs.Consistent.{IsConsistent}
use Rattle.gp_sat.proofs.Storing.{sound_attached}
use Rattle.gp_sat.proofs.Consisting.{consistent_clauses}
use Rattle.std.specs.Vec.{vec_capacity}
use Rattle.gp_sat.specs.State.{SolverForm}
use Rattle.gp_sat.proofs.kernel.Kernel.attach.Goals as goal

pub invariant_of-self-2 : goal.invariant_of-self-2
invariant_of-self-2 c = subst (λ (cs : List Stored). IsConsistent (record { values = c.self.inside.values; trail = c.self.inside.trail.items; clauses = cs; level = c.self.inside.level; order = c.self.inside.queue; used = c.self.inside.used }) c.self.inside.starts.items c.self.inside.place (vec_capacity c.self.inside.trail) (vec_capacity c.self.inside.starts)) (sym c.in_ok-push.ensures.ok)
    (consistent_clauses (record { values = c.self.inside.values; trail = c.self.inside.trail.items; clauses = c.self.inside.clauses; level = c.self.inside.level; order = c.self.inside.queue; used = c.self.inside.used }) (c.self.inside.clauses ++ record { clause = c.args.clause.now; attached = true } ∷ []) c.self.inside.starts.items c.self.inside.place (vec_capacity c.self.inside.trail) (vec_capacity c.self.inside.starts)
    (sound_attached (record { values = c.self.inside.values; trail = c.self.inside.trail.items; clauses = c.self.inside.clauses; level = c.self.inside.level; order = c.self.inside.queue; used = c.self.inside.used }) c.args.clause.now (subst (λ (s : SolverForm). NamesBelow (length s.values) c.args.clause.now) (sym c.self.view_is) c.requires.named)
    (subst (λ (s : SolverForm). MayAttach s c.args.clause.now) (sym c.self.view_is) c.requires.may) (subst (λ (s : SolverForm). length s.clauses + 1 < 2 ^ 32) (sym c.self.view_is) c.requires.few) c.self.invariant.sound) c.self.invariant)
