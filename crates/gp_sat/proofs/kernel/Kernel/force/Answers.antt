use Rattle.std.proofs.Common.{◌≡◌, refl, length, inl, arith}
use Rattle.std.specs.Vec.{vec_len}
use Rattle.gp_sat.proofs.Consisting.{consistent_laid}
use Rattle.gp_sat.proofs.Forcing.{forced_propagates, forced_sound, forced_within, may_be_forced, room_for}
use Rattle.gp_sat.proofs.kernel.Kernel.force.Goals as goal

pub lay-requires-clause-room : goal.lay-requires-clause-room
lay-requires-clause-room c =
    let room = room_for _ _ c.args.lit.variable _ _ _ _ c.self.view_is c.requires.named c.requires.unit.free c.self.invariant in
    omega (arith, room.trail)

pub lay-requires-clause-few : goal.lay-requires-clause-few
lay-requires-clause-few c =
    let room = room_for _ _ c.args.lit.variable _ _ _ _ c.self.view_is c.requires.named c.requires.unit.free c.self.invariant in
    omega (arith, room.few)

pub invariant_of-self : goal.invariant_of-self
invariant_of-self c =
    let may = may_be_forced _ _ c.args.lit c.args.number c.self.view_is c.requires.named c.requires.attached c.requires.unit c.self.invariant.sound in
    let size : vec_len c.self.inside.trail ≡ length c.self.inside.trail.items = omega arith in
    consistent_laid _ _ _ _ (vec_len c.self.inside.trail) c.lay.new.values c.lay.new.trail.items _ _ _ _ _ _ _
    size c.lay.ensures.values c.lay.ensures.trail c.lay.ensures.room refl (inl (refl, refl)) may c.self.invariant

pub returns-clause-added : goal.returns-clause-added
returns-clause-added c =
    let may = may_be_forced _ _ c.args.lit c.args.number c.self.view_is c.requires.named c.requires.attached c.requires.unit c.self.invariant.sound in
    forced_propagates _ _ _ _ (vec_len c.self.inside.trail) _ _ c.self.view_is c.requires.attached may c.self.invariant.sound
    (record { at_end = omega arith; written = c.lay.ensures.values; longer = c.lay.ensures.trail })

pub returns-clause-sound : goal.returns-clause-sound
returns-clause-sound c =
    let may = may_be_forced _ _ c.args.lit c.args.number c.self.view_is c.requires.named c.requires.attached c.requires.unit c.self.invariant.sound in
    forced_sound _ _ _ (vec_len c.self.inside.trail) _ _ may c.self.invariant.sound
    (record { at_end = omega arith; written = c.lay.ensures.values; longer = c.lay.ensures.trail })

pub returns-clause-within : goal.returns-clause-within
returns-clause-within c =
    let room = room_for _ _ c.args.lit.variable _ _ _ _ c.self.view_is c.requires.named c.requires.unit.free c.self.invariant in
    forced_within _ _ _ (vec_len c.self.inside.trail) _ _ _ _ _ room
    (record { at_end = omega arith; written = c.lay.ensures.values; longer = c.lay.ensures.trail })
