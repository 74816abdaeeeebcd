-- A look back along the events of a thread, one event at a time.
use Rattle.std.proofs.Common.{ℕ, suc, ◌≡◌, refl, sym, subst, List}
use Rattle.std.specs.Prelude.{slice_get}
use Rattle.gp_trace.specs.declared.event.Event.{Event}
use Rattle.gp_notify.specs.Calls.{call_in}
use Rattle.gp_notify.specs.Sleeping.{slept_at, turned}

-- the look back over so many events begins at the last of them
pub begins_at : (condition : List ℕ) (events : List Event) (index count : ℕ) → count ≡ suc index
    → slept_at condition events count ≡ turned condition (call_in (slice_get events index)) index (slept_at condition events index)
begins_at condition events index count is =
    subst (λ n. slept_at condition events n ≡ turned condition (call_in (slice_get events index)) index (slept_at condition events index)) (sym is) refl
