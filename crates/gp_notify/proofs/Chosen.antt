-- The signals that a wake may take, of those of its condition, and the first that it takes.
use Rattle.std.proofs.Common.{ℕ, ◌≡◌, ◌∙◌, ap, refl, sym, inl, inr, List, [], ◌∷◌, Bool, false}
use Rattle.std.specs.Prelude.{◌==◌, ◌&&◌, not, Option, None, Some, filter, find}
use Rattle.std.proofs.lemmas.Bool.{cases_Bool}
use Rattle.gp_clause.specs.declared.valuation.Valuation.{Valuation}
use Rattle.gp_clause.specs.Valuation.{truth_of}
use Rattle.gp_window.specs.WindowForm.{WindowForm}
use Rattle.gp_constraint.specs.declared.point.Point.{Point}
use Rattle.gp_constraint.specs.declared.symbol.Symbol.{Symbol}
use Rattle.gp_constraint.specs.declared.symbol.Symbol.TheVariants.{Signal}
use Rattle.gp_constraint.specs.Numbering.{number_of}
use Rattle.gp_constraint.specs.Points.{points_of}
use Rattle.gp_notify.specs.declared.call.Call.{Call}
use Rattle.gp_notify.specs.declared.call.Call.TheVariants.{Wake}
use Rattle.gp_notify.specs.Calls.{call_at, signals_for}
use Rattle.gp_notify.specs.Extended.{extended_names}
use Rattle.gp_notify.specs.Pairs.{is_taken}
use Rattle.gp_notify.specs.Signals.{signals_to}

-- the first that passes a third test, of those that pass two
find_among : {X : Type 0} (p q r : X → Bool) (xs : List X) → find (λ x. q x && r x) (filter p xs) ≡ find r (filter (λ x. p x && q x) xs)
find_among p q r [] = refl
find_among p q r (x ∷ xs) =
    elim (cases_Bool (p x)) [
      | inl one ↦ elim (cases_Bool (q x)) [
        | inl two ↦ elim (cases_Bool (r x)) [
          | inl three ↦ rw (one, two, three) refl
          | inr three ↦ rw (one, two, three) (find_among p q r xs)
        ]
        | inr two ↦ rw (one, two) (find_among p q r xs)
      ]
      | inr one ↦ rw one (find_among p q r xs)
    ]

none_among : {X : Type 0} (p : X → Bool) (xs : List X) → ((x : X) → p x ≡ false) → filter p xs ≡ []
none_among p [] h = refl
none_among p (x ∷ xs) h = let fails : p x ≡ false = h x in rw fails (none_among p xs h)

-- nothing signals for what is no wake
for_no_wake : (call : Call) (signal : Option Call) → ((condition : List ℕ) → call ≡ Wake condition → ⊥) → signals_for (Some call) signal ≡ false
for_no_wake (Wake condition) signal none = absurd (none condition refl)
for_no_wake _ signal none = refl

pub no_signals : (window : WindowForm) (call : Call) → ((condition : List ℕ) → call ≡ Wake condition → ⊥)
    → [] ≡ filter (λ (p : Point). signals_for (Some call) (call_at window p.id)) (points_of window)
no_signals window call none =
    sym (none_among (λ (p : Point). signals_for (Some call) (call_at window p.id)) (points_of window) (λ p. for_no_wake call (call_at window p.id) none))

-- the first that is taken, of the signals of the condition that are another thread's
pub first_of_condition : (window : WindowForm) (valuation : Valuation) (names : List Symbol) (w : Point) (call : Call) (signals : List Point)
    → call_at window w.id ≡ Some call → names ≡ extended_names window
    → signals ≡ filter (λ (p : Point). signals_for (Some call) (call_at window p.id)) (points_of window)
    → find (λ (g : Point). not (g.id.thread == w.id.thread) && truth_of valuation (number_of names (Signal w.number g.number))) signals
    ≡ find (is_taken window valuation w) (signals_to window w)
first_of_condition window valuation names w call signals calls named all =
    let test : List Symbol → Point → Bool = λ ns g. not (g.id.thread == w.id.thread) && truth_of valuation (number_of ns (Signal w.number g.number)) in
    ap (λ ns. find (test ns) signals) named
    ∙ ap (find (test (extended_names window))) all
    ∙ find_among (λ (p : Point). signals_for (Some call) (call_at window p.id)) (λ (g : Point). not (g.id.thread == w.id.thread)) (is_taken window valuation w) (points_of window)
    ∙ ap (λ o. find (is_taken window valuation w) (filter (λ (g : Point). signals_for o (call_at window g.id) && not (g.id.thread == w.id.thread)) (points_of window))) (sym calls)

-- an event without a call takes none
pub first_of_none : (window : WindowForm) (valuation : Valuation) (w : Point) → call_at window w.id ≡ None
    → ◌≡◌ {A = Option Point} None (find (is_taken window valuation w) (signals_to window w))
first_of_none window valuation w none =
    sym (ap (find (is_taken window valuation w))
    (ap (λ o. filter (λ (g : Point). signals_for o (call_at window g.id) && not (g.id.thread == w.id.thread)) (points_of window)) none
    ∙ none_among (λ (g : Point). signals_for None (call_at window g.id) && not (g.id.thread == w.id.thread)) (points_of window) (λ g. refl)))
