-- The tables of a window, from those of its points that have calls.
use Rattle.std.proofs.Common.{ℕ, ◌≡◌, ◌∙◌, ap, sym, refl, inl, inr, List, [], ◌∷◌, Bool, true, false}
use Rattle.std.specs.Prelude.{filter, is_some, None, Option, Some}
use Rattle.std.proofs.lemmas.Bool.{cases_Bool, false≢true}
use Rattle.gp_window.specs.WindowForm.{WindowForm}
use Rattle.gp_constraint.specs.declared.point.Point.{Point}
use Rattle.gp_constraint.specs.Points.{points_of}
use Rattle.gp_constraint.specs.Tables.{entry_at}
use Rattle.gp_notify.specs.declared.call.Call.{Call}
use Rattle.gp_notify.specs.Calls.{call_at, is_notify, is_wake, signals_on, wakes_from}
use Rattle.gp_notify.specs.CallTables.{AreCallTables, signals_in, wakes_on}

-- a filter of what a wider one keeps
within : (wide test : Point → Bool) (points : List Point) → ((p : Point) → test p ≡ true → wide p ≡ true) → filter test (filter wide points) ≡ filter test points
within wide test [] h = refl
within wide test (p ∷ points) h =
    elim (cases_Bool (test p)) [
      | inl passes ↦ let too : wide p ≡ true = h p passes in rw (too, passes) (ap (λ rest. p ∷ rest) (within wide test points h))
      | inr fails ↦ elim (cases_Bool (wide p)) [
        | inl kept ↦ rw (kept, fails) (within wide test points h)
        | inr dropped ↦ rw (dropped, fails) (within wide test points h)
      ]
    ]

some_from : (test : Option Call → Bool) (call : Option Call) → test None ≡ false → test call ≡ true → is_some call ≡ true
some_from test None none e = absurd (false≢true (sym none ∙ e))
some_from test (Some call) none e = refl

-- what passes a test of calls has a call
called : (window : WindowForm) (test : Option Call → Bool) (points : List Point) → test None ≡ false
    → filter (λ (p : Point). test (call_at window p.id)) (filter (λ (p : Point). is_some (call_at window p.id)) points) ≡ filter (λ (p : Point). test (call_at window p.id)) points
called window test points none =
    within (λ (p : Point). is_some (call_at window p.id)) (λ (p : Point). test (call_at window p.id)) points (λ p e. some_from test (call_at window p.id) none e)

pub tables_from : (window : WindowForm) (points calls wakes notifies : List Point) (wakers signals : List (List ℕ × List Point)) → points ≡ points_of window
    → calls ≡ filter (λ (p : Point). is_some (call_at window p.id)) points
    → wakes ≡ filter (λ (p : Point). is_wake (call_at window p.id)) calls
    → notifies ≡ filter (λ (p : Point). is_notify (call_at window p.id)) calls
    → ((condition : List ℕ) → entry_at wakers condition ≡ wakes_on window calls condition)
    → ((condition : List ℕ) → entry_at signals condition ≡ signals_in window calls condition)
    → AreCallTables window wakes notifies wakers signals
tables_from window points calls wakes notifies wakers signals all kept w n by_wake by_signal =
    let from : (test : Option Call → Bool) → test None ≡ false
    → filter (λ (p : Point). test (call_at window p.id)) calls ≡ filter (λ (p : Point). test (call_at window p.id)) (points_of window) =
    (λ test none. ap (filter (λ (p : Point). test (call_at window p.id))) kept ∙ called window test points none ∙ ap (filter (λ (p : Point). test (call_at window p.id))) all) in
    record {
      wakes_are = w ∙ from is_wake refl;
      notifies_are = n ∙ from is_notify refl;
      wakers_are = λ condition. by_wake condition ∙ from (wakes_from condition) refl;
      signals_are = λ condition. by_signal condition ∙ from (signals_on condition) refl;
    }
