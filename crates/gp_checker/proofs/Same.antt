-- Ids that are equal name one event.
use Rattle.std.proofs.Common.{◌≡◌, refl, ap, ◌∙◌, subst, ◌==◌, ◌&&◌, true, Decides, eqb-true, eq-eqb}
use Rattle.std.proofs.lemmas.Bool.{and_parts}
use Rattle.gp_window.specs.declared.schedule.EventId.{EventId}

itself : (id : EventId) → (id.thread == id.thread && id.index == id.index) ≡ true
itself id = rw (eq-eqb id.thread id.thread refl, eq-eqb id.index id.index refl) refl

-- two ids are equal exactly where their numbers are
pub ids_decide : (one other : EventId) → Decides (one.thread == other.thread && one.index == other.index) (one ≡ other)
ids_decide one other = (
  λ told.
      let parts = and_parts (one.thread == other.thread) (one.index == other.index) told in
      ap (λ t. record { thread = t; index = one.index }) (eqb-true one.thread other.thread parts.0) ∙ ap (λ i. record { thread = other.thread; index = i }) (eqb-true one.index other.index parts.1),
  λ same. subst (λ (id : EventId). (one.thread == id.thread && one.index == id.index) ≡ true) same (itself one),
)
