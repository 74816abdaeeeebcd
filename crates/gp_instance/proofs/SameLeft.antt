-- Lists of events that are tested to be the same.
use Rattle.std.proofs.Common.{◌≡◌, ap, refl, arith, true, List, [], ◌∷◌, length}
use Rattle.std.specs.Bool.{Decides}
use Rattle.std.specs.Cmp.{unsigned_Decides}
use Rattle.std.specs.Cmp.Lexicographic.{pointwise, pointwise_decides}
use Rattle.std.specs.List.{list_all}
use Rattle.std.specs.Prelude.{◌==◌, zip}
use Rattle.std.proofs.lemmas.Bool.{and_from, and_parts}
use Rattle.gp_window.specs.Ids.{is_same}
use Rattle.gp_window.specs.declared.schedule.EventId.{EventId}

is_same_decides : (one other : EventId) → Decides (is_same one other) (one ≡ other)
is_same_decides one other =
    let threads = unsigned_Decides one.thread other.thread in
    let indexes = unsigned_Decides one.index other.index in (
      (λ e. let parts = and_parts (one.thread == other.thread) (one.index == other.index) e in
          λ i. record { thread = threads.0 parts.0 i; index = indexes.0 parts.1 i }),
      (λ e. and_from (one.thread == other.thread) (one.index == other.index) (threads.1 (ap (λ (id : EventId). id.thread) e)) (indexes.1 (ap (λ (id : EventId). id.index) e))),
    )

-- as many, each the same
pub same_left : (ones others : List (List EventId)) → length ones ≡ length others
    → list_all (λ pair. pointwise is_same pair.0 pair.1) (zip ones others) ≡ true → ones ≡ others
same_left [] [] many e = refl
same_left [] (other ∷ others) many e = absurd (omega (arith, many))
same_left (one ∷ ones) [] many e = absurd (omega (arith, many))
same_left (one ∷ ones) (other ∷ others) many e =
    let parts = and_parts (pointwise is_same one other) (list_all (λ pair. pointwise is_same pair.0 pair.1) (zip ones others)) e in
    let here : one ≡ other = (pointwise_decides is_same_decides one other).0 parts.0 in
    let rest : ones ≡ others = same_left ones others (omega (arith, many)) parts.1 in
    λ i. here i ∷ rest i
