-- Where a literal is true, its fact holds.
use Rattle.std.proofs.Common.{ℕ, zero, suc, ◌≡◌, ◌+◌, ◌<◌, refl, ap, sym, ◌∙◌, subst, inl, inr, arith, Bool, true, false, List, [], ◌∷◌, ◌++◌, length}
use Rattle.std.specs.Prelude.{◌⊎◌, pos, negsuc, ◌-ℤ◌, ◌≤ℤ◌, ◌<ℤ◌, Option, Some, None, slice_get}
use Rattle.std.proofs.lemmas.Option.{none-some}
use Rattle.gp_base.specs.ListLaws.{contains_got}
use Rattle.gp_constraint.specs.declared.point.Point.{Point}
use Rattle.gp_constraint.specs.declared.symbol.Symbol.{Symbol}
use Rattle.gp_constraint.specs.declared.symbol.Symbol.TheVariants.{Executed, Order, Choice, StartChoice, First, Last, Signal, Span}
use Rattle.gp_constraint.specs.PointIds.{id_at, id_in}
use Rattle.gp_constraint.specs.PointLaws.{points_named}
use Rattle.gp_constraint.specs.Points.{number_in, points_from, points_in, points_of}
use Rattle.gp_constraint.specs.SymbolTruth.{Bound, SymbolTruth}
use Rattle.gp_trace.specs.declared.event.Event.{Event}
use Rattle.gp_window.specs.WindowForm.{WindowForm}
use Rattle.gp_reason.specs.Facts.{fact_by}
use Rattle.gp_reason.specs.Truth.{HoldsBy, NamesPoints}

-- a point at a place has the number of the place
in_segment : (thread index number place : ℕ) (events : List Event) (p : Point) → slice_get (points_in thread index number events) place ≡ Some p → p.number ≡ number + place
in_segment thread index number place [] p got = absurd (none-some p got)
in_segment thread index number zero (event ∷ events) p got =
    let own : number ≡ p.number = ap (λ (o : Option Point). number_in_option o) got in
    omega (arith, own)
  where
    number_in_option : Option Point → ℕ
    number_in_option (Some q) = q.number
    number_in_option None = 0
in_segment thread index number (suc place) (event ∷ events) p got =
    let rest = in_segment thread (suc index) (suc number) place events p got in
    omega (arith, rest)

-- of two lists, one after the other
got_parts : (front back : List Point) (place : ℕ) (p : Point) → slice_get (front ++ back) place ≡ Some p
    → (slice_get front place ≡ Some p) ⊎ ((later : ℕ) × (length front + later ≡ place) × (slice_get back later ≡ Some p))
got_parts [] back place p got = inr (place, omega arith, got)
got_parts (first ∷ front) back zero p got = inl got
got_parts (first ∷ front) back (suc place) p got =
    elim (got_parts front back place p got) [
      | inl early ↦ inl early
      | inr late ↦ let at : length front + late.0 ≡ place = late.1 in inr (late.0, omega (arith, at), late.2)
    ]

points_as_many : (thread index number : ℕ) (events : List Event) → length (points_in thread index number events) ≡ length events
points_as_many thread index number [] = refl
points_as_many thread index number (event ∷ events) = ap suc (points_as_many thread (suc index) (suc number) events)

in_segments : (thread number place : ℕ) (segments : List (List Event)) (p : Point) → slice_get (points_from thread number segments) place ≡ Some p → p.number ≡ number + place
in_segments thread number place [] p got = absurd (none-some p got)
in_segments thread number place (segment ∷ segments) p got =
    elim (got_parts (points_in thread 0 number segment) (points_from (suc thread) (number + length segment) segments) place p got) [
      | inl early ↦ in_segment thread 0 number place segment p early
      | inr late ↦
          let rest = in_segments (suc thread) (number + length segment) late.0 segments p late.2 in
          let at : length (points_in thread 0 number segment) + late.0 ≡ place = late.1 in
          omega (arith, rest, at, points_as_many thread 0 number segment)
    ]

-- there is a point at each place
some_point : (points : List Point) (place : ℕ) → place < length points → (p : Point) × (slice_get points place ≡ Some p)
some_point [] place below = absurd (omega (arith, below))
some_point (p ∷ points) zero below = (p, refl)
some_point (p ∷ points) (suc place) below = some_point points place (omega (arith, below))

-- the event of a point has the point's number
number_again : (window : WindowForm) (place : ℕ) → place < length (points_of window) → number_in window (id_at (points_of window) place) ≡ place
number_again window place below =
    let at = some_point (points_of window) place below in
    let own = (points_named window).own at.0 (contains_got (points_of window) place at.0 at.1) in
    let numbered = in_segments 1 0 place window.segments at.0 at.1 in
    ap (λ (o : Option Point). number_in window (id_in o)) at.1 ∙ sym own.3 ∙ omega (arith, numbered)

-- one number, and two, in place of others
with_one : (P : ℕ → Type 0) (a b : ℕ) → a ≡ b → P b → P a
with_one P a b same holds = subst P (sym same) holds

with_two : (P : ℕ → ℕ → Type 0) (a b c d : ℕ) → a ≡ b → c ≡ d → P b d → P a c
with_two P a b c d one other holds = subst (λ x. P x c) (sym one) (subst (λ y. P b y) (sym other) holds)

pub fact_holds : (window : WindowForm) (t : SymbolTruth) (symbol : Symbol) (positive : Bool) → NamesPoints (length (points_of window)) symbol → t.symbols symbol ≡ positive → Bound t symbol positive
    → HoldsBy (number_in window) t (fact_by (id_at (points_of window)) symbol positive)
fact_holds window t (Executed p) true within is bound = with_one (λ n. t.symbols (Executed n) ≡ true) _ p (number_again window p within) is
fact_holds window t (Executed p) false within is bound = with_one (λ n. t.symbols (Executed n) ≡ false) _ p (number_again window p within) is
fact_holds window t (Order a b) true within is bound = with_two (λ n m. t.places n <ℤ t.places m) _ a _ b (number_again window a within.0) (number_again window b within.1) bound
fact_holds window t (Order a b) false within is bound = with_two (λ n m. t.places n <ℤ t.places m) _ b _ a (number_again window b within.1) (number_again window a within.0) bound
fact_holds window t (Choice r w) true within is bound = with_two (λ n m. t.symbols (Choice n m) ≡ true) _ r _ w (number_again window r within.0) (number_again window w within.1) is
fact_holds window t (Choice r w) false within is bound = with_two (λ n m. t.symbols (Choice n m) ≡ false) _ r _ w (number_again window r within.0) (number_again window w within.1) is
fact_holds window t (StartChoice r) true within is bound = with_one (λ n. t.symbols (StartChoice n) ≡ true) _ r (number_again window r within) is
fact_holds window t (StartChoice r) false within is bound = with_one (λ n. t.symbols (StartChoice n) ≡ false) _ r (number_again window r within) is
fact_holds window t (First a b) true within is bound =
    inl (with_two (λ n m. t.symbols (First n m) ≡ true) _ a _ b (number_again window a within.0) (number_again window b within.1) is)
fact_holds window t (First a b) false within is bound =
    inr (with_two (λ n m. t.symbols (First n m) ≡ false) _ a _ b (number_again window a within.0) (number_again window b within.1) is)
fact_holds window t (Last w) true within is bound = with_one (λ n. t.symbols (Last n) ≡ true) _ w (number_again window w within) is
fact_holds window t (Last w) false within is bound = with_one (λ n. t.symbols (Last n) ≡ false) _ w (number_again window w within) is
fact_holds window t (Signal w g) true within is bound = with_two (λ n m. t.symbols (Signal n m) ≡ true) _ w _ g (number_again window w within.0) (number_again window g within.1) is
fact_holds window t (Signal w g) false within is bound = with_two (λ n m. t.symbols (Signal n m) ≡ false) _ w _ g (number_again window w within.0) (number_again window g within.1) is
fact_holds window t (Span a b c) true within is bound =
    with_two (λ n m. (t.places n -ℤ t.places m) ≤ℤ pos c) _ a _ b (number_again window a within.0) (number_again window b within.1) bound
fact_holds window t (Span a b c) false within is bound =
    with_two (λ n m. (t.places n -ℤ t.places m) ≤ℤ negsuc c) _ b _ a (number_again window b within.1) (number_again window a within.0) bound
