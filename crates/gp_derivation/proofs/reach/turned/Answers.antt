use Rattle.std.proofs.Common.{◌≡◌, ℕ, List, length, sym, ap, subst, arith}
use Rattle.std.specs.Prelude.{IsPermutation}
use Rattle.std.specs.Vec.{with_items}
use Rattle.std.proofs.lemmas.List.{with_items_is}
use Rattle.gp_derivation.proofs.reach.turned.Goals as goal

pub returns-clause-same : goal.returns-clause-same
returns-clause-same c =
    let written : (with_items c.args.places c.reverse.new.self).items ≡ c.reverse.new.self = with_items_is c.args.places c.reverse.new.self (omega (arith, c.reverse.ensures.len, ap (λ (xs : List ℕ). length xs) c.as_mut_slice.ensures.value)) in
    let moves : IsPermutation c.args.places.items c.reverse.new.self = subst (λ (xs : List ℕ). IsPermutation xs c.reverse.new.self) c.as_mut_slice.ensures.value c.reverse.ensures.permutation in
    subst (λ (xs : List ℕ). IsPermutation c.args.places.items xs) (sym written) moves
