-- What the tests of calls say.
use Rattle.std.proofs.Common.{ℕ, ◌≡◌, ◌⊎◌, ap, sym, refl, subst, inl, inr, List, true}
use Rattle.std.specs.Prelude.{Option, Some}
use Rattle.std.specs.Str.{bytes_eq}
use Rattle.std.proofs.lemmas.Slice.Eq.{bytes_eq-Decides}
use Rattle.gp_window.specs.declared.schedule.EventId.{EventId}
use Rattle.gp_window.specs.WindowForm.{WindowForm}
use Rattle.gp_notify.specs.declared.call.Call.{Call}
use Rattle.gp_notify.specs.declared.call.Call.TheVariants.{Wake, Notify, NotifyAll}
use Rattle.gp_notify.specs.Calls.{call_at, is_notify, is_wake, Notifies, signals_for, signals_on, Wakes}

pub same_bytes : (a b : List ℕ) → bytes_eq a b ≡ true → a ≡ b
same_bytes a b e = (bytes_eq-Decides a b).0 e

wake_told : (call : Option Call) → is_wake call ≡ true → (condition : List ℕ) × (call ≡ Some (Wake condition))
wake_told (Some (Wake condition)) e = (condition, refl)
wake_told _ e = cc

pub wake_is : (window : WindowForm) (id : EventId) → is_wake (call_at window id) ≡ true → (condition : List ℕ) × Wakes window condition id
wake_is window id e = wake_told (call_at window id) e

notify_told : (call : Option Call) → is_notify call ≡ true → (condition : List ℕ) × (call ≡ Some (Notify condition))
notify_told (Some (Notify condition)) e = (condition, refl)
notify_told _ e = cc

pub notify_is : (window : WindowForm) (id : EventId) → is_notify (call_at window id) ≡ true → (condition : List ℕ) × Notifies window condition id
notify_is window id e = notify_told (call_at window id) e

-- what signals for an event signals for a wake
pub for_wake : (one other : Option Call) → signals_for one other ≡ true → is_wake one ≡ true
for_wake (Some (Wake condition)) other e = refl
for_wake _ other e = cc

pub signal_told : (condition : List ℕ) (call : Option Call) → signals_on condition call ≡ true → (call ≡ Some (Notify condition)) ⊎ (call ≡ Some (NotifyAll condition))
signal_told condition (Some (Notify other)) e = inl (ap (λ c. Some (Notify c)) (same_bytes other condition e))
signal_told condition (Some (NotifyAll other)) e = inr (ap (λ c. Some (NotifyAll c)) (same_bytes other condition e))
signal_told condition _ e = cc

pub signal_to : (condition : List ℕ) (call : Option Call) → (call ≡ Some (Notify condition)) ⊎ (call ≡ Some (NotifyAll condition)) → signals_on condition call ≡ true
signal_to condition call (inl is) = subst (λ x. signals_on condition x ≡ true) (sym is) ((bytes_eq-Decides condition condition).1 refl)
signal_to condition call (inr is) = subst (λ x. signals_on condition x ≡ true) (sym is) ((bytes_eq-Decides condition condition).1 refl)
