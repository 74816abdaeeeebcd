-- Two lists of events are equal exactly where each is the same event as the other at its place.
use Rattle.std.proofs.Common.{◌≡◌, ◌⊎◌, inl, inr, refl, ap, ◌∙◌, subst, sym, ◌==◌, ◌&&◌, Bool, true, false, List, Decides, eqb-true, eq-eqb}
use Rattle.std.specs.Cmp.Lexicographic.{pointwise, pointwise_decides}
use Rattle.std.proofs.lemmas.Bool.{and_parts, false≢true}
use Rattle.gp_window.specs.declared.schedule.EventId.{EventId}
use Rattle.gp_window.specs.Ids.{is_same}

itself : (id : EventId) → (id.thread == id.thread && id.index == id.index) ≡ true
itself id = rw (eq-eqb id.thread id.thread refl, eq-eqb id.index id.index refl) refl

same_decides : (one other : EventId) → Decides (is_same one other) (one ≡ other)
same_decides one other = (
  λ told.
      let parts = and_parts (one.thread == other.thread) (one.index == other.index) told in
      ap (λ t. record { thread = t; index = one.index }) (eqb-true one.thread other.thread parts.0) ∙ ap (λ i. record { thread = other.thread; index = i }) (eqb-true one.index other.index parts.1),
  λ same. subst (λ (id : EventId). (one.thread == id.thread && one.index == id.index) ≡ true) same (itself one),
)

pub ids_decide : (ids other : List EventId) → Decides (pointwise is_same ids other) (ids ≡ other)
ids_decide = pointwise_decides same_decides

pub ids_cases : (ids other : List EventId) → (ids ≡ other) ⊎ (ids ≡ other → ⊥)
ids_cases ids other = at (pointwise is_same ids other) refl
  where
    at : (same : Bool) → pointwise is_same ids other ≡ same → (ids ≡ other) ⊎ (ids ≡ other → ⊥)
    at true is = inl ((ids_decide ids other).0 is)
    at false is = inr (λ e. false≢true (sym is ∙ (ids_decide ids other).1 e))

pub ids_apart : (ids other : List EventId) → (ids ≡ other → ⊥) → pointwise is_same ids other ≡ false
ids_apart ids other apart = at (pointwise is_same ids other) refl
  where
    at : (same : Bool) → pointwise is_same ids other ≡ same → pointwise is_same ids other ≡ false
    at true is = absurd (apart ((ids_decide ids other).0 is))
    at false is = is
