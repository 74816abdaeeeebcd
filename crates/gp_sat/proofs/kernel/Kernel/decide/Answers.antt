use Rattle.std.proofs.Common.{◌≡◌, refl, ◌∙◌, ap, ℕ, [], ◌∷◌, ◌++◌, length, inr, arith}
use Rattle.gp_sat.proofs.Consisting.{consistent_laid}
use Rattle.gp_sat.proofs.Forcing.{may_be_decided, room_for}
use Rattle.std.specs.Vec.{vec_len}
use Rattle.gp_sat.proofs.kernel.Kernel.decide.Goals as goal

pub overflow_add-level : goal.overflow_add-level
overflow_add-level c =
    let room = room_for _ _ c.args.lit.variable _ _ _ _ c.self.view_is c.requires.named c.requires.free c.self.invariant in
    omega (arith, room.next)

pub push_reserved-requires : goal.push_reserved-requires
push_reserved-requires c =
    let room = room_for _ _ c.args.lit.variable _ _ _ _ c.self.view_is c.requires.named c.requires.free c.self.invariant in
    omega (arith, room.starts_in)

pub lay-requires-clause-room : goal.lay-requires-clause-room
lay-requires-clause-room c =
    let room = room_for _ _ c.args.lit.variable _ _ _ _ c.self.view_is c.requires.named c.requires.free c.self.invariant in
    omega (arith, room.trail)

pub lay-requires-clause-few : goal.lay-requires-clause-few
lay-requires-clause-few c =
    let room = room_for _ _ c.args.lit.variable _ _ _ _ c.self.view_is c.requires.named c.requires.free c.self.invariant in
    omega (arith, room.few)

pub invariant_of-self : goal.invariant_of-self
invariant_of-self c =
    let may = may_be_decided _ _ c.args.lit c.self.view_is c.requires.named c.requires.free c.requires.closed c.self.invariant.sound in
    let size : vec_len c.self.inside.trail ≡ length c.self.inside.trail.items = omega arith in
    consistent_laid _ _ _ _ (vec_len c.self.inside.trail) c.lay.new.values c.lay.new.trail.items _ _ _ _ _ _ _
    size c.lay.ensures.values c.lay.ensures.trail c.lay.ensures.room c.push_reserved.ensures.capacity
    (inr (refl, c.push_reserved.ensures.items ∙ ap (λ (n : ℕ). c.self.inside.starts.items ++ n ∷ []) (c.len.ensures ∙ size))) may c.self.invariant
