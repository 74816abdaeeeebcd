use Rattle.gp_sat.proofs.Consisting.{consistent_placed, free_at_place}
use Rattle.std.specs.Vec.{vec_capacity}
use Rattle.gp_sat.proofs.kernel.Kernel.next_free.Goals as goal

pub invariant_of-self : goal.invariant_of-self
invariant_of-self c = consistent_placed (record { values = c.self.inside.values; trail = c.self.inside.trail.items; clauses = c.self.inside.clauses; level = c.self.inside.level; order = c.self.inside.queue; used = c.self.inside.used }) c.self.inside.starts.items c.self.inside.place c.next_open-place.result (vec_capacity c.self.inside.trail) (vec_capacity c.self.inside.starts)
    c.next_open-place.ensures.placed c.self.invariant

pub returns-clause-free : goal.returns-clause-free
returns-clause-free c = free_at_place (record { values = c.self.inside.values; trail = c.self.inside.trail.items; clauses = c.self.inside.clauses; level = c.self.inside.level; order = c.self.inside.queue; used = c.self.inside.used }) c.next_open-place.result c.self.invariant.used_in c.next_open-place.ensures.placed c.next_open-place.ensures.open c.next_open-place.ensures.full
