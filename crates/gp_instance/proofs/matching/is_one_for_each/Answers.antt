-- Where no event is left, there are as many events as atoms.
use Rattle.std.proofs.Common.{◌≡◌, ℕ, ◌+◌, ◌<◌, ◌↔◌, ◌==◌, IsTrue, arith, eq-eqb, eqb-true, length}
use Rattle.gp_property.specs.Atoms.{atom_count}
use Rattle.gp_instance.proofs.matching.is_one_for_each.Goals as goal

none_left : (left events atoms : ℕ) → left + atoms ≡ events → IsTrue (left == 0) ↔ (events ≡ atoms)
none_left left events atoms enough = (λ none. omega (arith, eqb-true left 0 none), λ same. eq-eqb left 0 (omega arith))

pub returns-in-Some : goal.returns-in-Some
returns-in-Some c =
    none_left c.in-Some.left (length c.args.instance.now.events) (atom_count c.args.property.now.pattern)
    (rw (c.len.ensures, c.pattern.ensures.value) at c.in-Some.ensures.enough)

pub returns-in-None : goal.returns-in-None
returns-in-None c =
    let few : length c.args.instance.now.events < atom_count c.args.property.now.pattern = rw (c.len.ensures, c.pattern.ensures.value) at (c.left_after.ensures.short c.in-None.is) in
    (λ enough. absurd (cc), λ same. absurd (omega arith))
