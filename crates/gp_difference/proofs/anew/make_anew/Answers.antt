use Rattle.std.proofs.Common.{◌≡◌, ℤ, ◌<◌, pos, ◌-ℤ◌, length, w64, to_z, of_z, arith, Some, subst, sym}
use Rattle.std.proofs.lemmas.Int.{ints, clamps}
use Rattle.std.specs.Int.{int_min}
use Rattle.gp_difference.specs.Anew.{IsNextBelow, below_count}
use Rattle.gp_difference.proofs.AnewLemmas.{squeezed_first, squeezed_more, squeezed_ends, below_count_falls}
use Rattle.gp_difference.proofs.anew.make_anew.Goals as goal

pub loop-next-init : goal.loop-next-init
loop-next-init c = squeezed_first c.args.places.now c.args.labels.now c.put_level.new.labels c.requires.size c.requires.top c.put_level.ensures

pub loop-next-smaller : goal.loop-next-smaller
loop-next-smaller c =
    let h = c.in-Some.ensures in
    let bottom = c.requires.bottom h.1.0 in
    let top = c.requires.top h.1.0 in
    let e : to_z w64 (of_z w64 c.in-Some.next) ≡ c.in-Some.next = omega (arith, ints, h.1.2, bottom, top) in
    let lt = below_count_falls c.args.places.now c.in-Some.next (to_z w64 c.loop-next.value-bits) h.1.0 h.1.1 h.1.2 h.0 in
    subst (λ (n : ℤ). below_count c.args.places.now n < below_count c.args.places.now (to_z w64 c.loop-next.value-bits)) (sym e) (omega (arith, lt))

pub loop-next-preserved : goal.loop-next-preserved
loop-next-preserved c =
    let places = c.args.places.now in
    let h = c.in-Some.ensures in
    let bottom = c.requires.bottom h.1.0 in
    let top = c.requires.top h.1.0 in
    let e : to_z w64 (of_z w64 c.in-Some.next) ≡ c.in-Some.next = omega (arith, ints, h.1.2, bottom, top) in
    let value = to_z w64 c.loop-next.value-bits in
    let level = to_z w64 c.loop-next.level-bits in
    let next = to_z w64 (of_z w64 c.in-Some.next) in
    let inv = c.loop-next.invariant in
    let below : IsNextBelow places value (length places) (Some next) =
    subst (λ (n : ℤ). IsNextBelow places value (length places) (Some n)) (sym e) h in
    let is : to_z w64 (of_z w64 (level -ℤ to_z w64 (of_z w64 c.min-level.result))) ≡ (level -ℤ int_min (value -ℤ next) (pos 4096)) =
    omega (arith, ints, clamps, c.min-level.ensures.value, inv.value_top, inv.top, inv.room, c.requires.few, h.0, h.1.2, bottom, e) in
    squeezed_more places c.loop-next.labels c.put_level-in-Some.new.labels value level next _ c.loop-next.invariant below is c.put_level-in-Some.ensures

pub returns : goal.returns
returns c = squeezed_ends c.args.places.now c.loop-next.labels _ _ c.requires.few c.loop-next.invariant c.in_default.ensures
