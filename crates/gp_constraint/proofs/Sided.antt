-- On which side of an event another one stands, by their numbers.
use Rattle.std.proofs.Common.{ℕ, ◌≡◌, ◌<◌, ◌∙◌, ap, refl, subst, List, [], ◌∷◌, Bool, true, false, get_or, length}
use Rattle.std.specs.Prelude.{◌==◌, if◌then◌else◌, nat_lt, Contains}
use Rattle.std.proofs.lemmas.List.Elements.{Contains-get_or}
use Rattle.gp_window.specs.declared.schedule.EventId.{EventId}
use Rattle.gp_window.specs.WindowForm.{WindowForm}
use Rattle.gp_constraint.specs.declared.point.Point.{Point}
use Rattle.gp_constraint.specs.declared.symbol.Symbol.{Symbol}
use Rattle.gp_constraint.specs.declared.symbol.Symbol.TheVariants.{Order}
use Rattle.gp_constraint.specs.PointLaws.{points_named}
use Rattle.gp_constraint.specs.Points.{number_in, points_of}
use Rattle.gp_constraint.specs.Query.{holds, ordered, side}

either : (b : Bool) (m n : ℕ) → ◌≡◌ {A = Symbol} (if b then Order m n else Order n m) (if b then holds (Order m n) else record { symbol = Order n m; positive = false }).symbol
either true m n = refl
either false m n = refl

-- the side, of an event of another thread
pub side_is : (window : WindowForm) (id : EventId) (p : Point) (number : ℕ) (symbol : Symbol) → number ≡ number_in window id → p.number ≡ number_in window p.id
    → (id.thread == p.id.thread) ≡ false → symbol ≡ (if nat_lt number p.number then Order number p.number else Order p.number number) → symbol ∷ [] ≡ side window id p
side_is window id p number symbol own other differ is =
    let numbers : symbol ≡ (ordered window id p.id).symbol =
    is ∙ ap (λ (n : ℕ). if nat_lt n p.number then Order n p.number else Order p.number n) own
    ∙ ap (λ (n : ℕ). if nat_lt (number_in window id) n then Order (number_in window id) n else Order n (number_in window id)) other
    ∙ either (nat_lt (number_in window id) (number_in window p.id)) (number_in window id) (number_in window p.id) in
    rw differ (ap (λ (s : Symbol). s ∷ []) numbers)

-- a point of a window has its number
pub numbered_get : (window : WindowForm) (points : List Point) (i : ℕ) (d : Point) → points ≡ points_of window → i < length points
    → (get_or points i d).number ≡ number_in window (get_or points i d).id
numbered_get window points i d are below =
    ((points_named window).own (get_or points i d) (subst (λ (ps : List Point). Contains ps (get_or points i d)) are (Contains-get_or points i d below))).3
