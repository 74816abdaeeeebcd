use Rattle.std.proofs.Common.{◌≡◌, List, ℕ, ℤ, MatchBool, subst, w64, to_z, of_z, arith}
use Rattle.std.proofs.lemmas.Int.{ints}
use Rattle.gp_difference.specs.Settle.{SomeBelow}
use Rattle.gp_difference.specs.Placement.{PointsAbove}
use Rattle.gp_difference.proofs.placement.Placement.fell_below.Goals as goal

pub returns : goal.returns
returns c =
    let found = c.any_at_below.result in
    let limit = to_z w64 (of_z w64 c.args.limit) in
    let bits : limit ≡ c.args.limit = omega (arith, ints, c.ranges.limit.sfits) in
    let places = c.self.inside.places.items in
    let fallen = c.self.inside.fallen.items in
    rw (← c.self.view_is) (subst (λ (l : ℤ). MatchBool found (SomeBelow places l) (PointsAbove places fallen l)) bits
    (subst (λ (ps : List ℤ). MatchBool found (SomeBelow ps limit) (PointsAbove ps fallen limit)) c.deref.ensures.value
    (subst (λ (fs : List ℕ). MatchBool found (SomeBelow c.deref.result.now limit) (PointsAbove c.deref.result.now fs limit)) c.deref-2.ensures.value c.any_at_below.ensures)))
