-- What the query of a cycle says of each of its events.
use Rattle.std.proofs.Common.{ℕ, zero, suc, ◌≡◌, refl, subst, List, [], ◌∷◌, Bool, true, false, arith}
use Rattle.std.specs.Prelude.{flat_map}
use Rattle.std.specs.List.{AllByRecursion}
use Rattle.gp_base.specs.ListLaws.{recursion_append, recursion_parts}
use Rattle.gp_clause.specs.Lit.{HoldsLit}
use Rattle.gp_window.specs.declared.schedule.EventId.{EventId}
use Rattle.gp_window.specs.WindowForm.{WindowForm}
use Rattle.gp_constraint.specs.PointLaws.{event_id}
use Rattle.gp_constraint.specs.Points.{number_in}
use Rattle.gp_stuck.specs.StuckQuery.{before_lits, executed_lit, stop_lits}

-- the event before is executed, where there is one, and the event is not
pub record StopsAt (window : WindowForm) (truth : ℕ → Bool) (id : EventId) : Type 0 where
  pub before : (index : ℕ) → id.index ≡ suc index → truth (number_in window (event_id id.thread index)) ≡ true
  pub itself : truth (number_in window id) ≡ false

before_told : (window : WindowForm) (truth : ℕ → Bool) (thread at : ℕ) → AllByRecursion (HoldsLit truth) (before_lits window thread at)
    → (index : ℕ) → at ≡ suc index → truth (number_in window (event_id thread index)) ≡ true
before_told window truth thread zero holds index is = absurd (omega (arith, is))
before_told window truth thread (suc n) holds index is =
    let same : n ≡ index = omega (arith, is) in
    subst (λ k. truth (number_in window (event_id thread k)) ≡ true) same holds.0

pub stops_told : (window : WindowForm) (truth : ℕ → Bool) (ids : List EventId) → AllByRecursion (HoldsLit truth) (flat_map (stop_lits window) ids)
    → AllByRecursion (StopsAt window truth) ids
stops_told window truth [] holds = tt
stops_told window truth (id ∷ ids) holds =
    let parts = recursion_parts (HoldsLit truth) (stop_lits window id) (flat_map (stop_lits window) ids) holds in
    let own = recursion_parts (HoldsLit truth) (before_lits window id.thread id.index) (executed_lit window false id ∷ []) parts.0 in
    (record { before = before_told window truth id.thread id.index own.0; itself = own.1.0 }, stops_told window truth ids parts.1)

before_true : (window : WindowForm) (truth : ℕ → Bool) (thread at : ℕ) → ((index : ℕ) → at ≡ suc index → truth (number_in window (event_id thread index)) ≡ true)
    → AllByRecursion (HoldsLit truth) (before_lits window thread at)
before_true window truth thread zero holds = tt
before_true window truth thread (suc n) holds = (holds n refl, tt)

pub stops_true : (window : WindowForm) (truth : ℕ → Bool) (ids : List EventId) → AllByRecursion (StopsAt window truth) ids
    → AllByRecursion (HoldsLit truth) (flat_map (stop_lits window) ids)
stops_true window truth [] stops = tt
stops_true window truth (id ∷ ids) stops =
    recursion_append (HoldsLit truth) (stop_lits window id) (flat_map (stop_lits window) ids)
    (recursion_append (HoldsLit truth) (before_lits window id.thread id.index) (executed_lit window false id ∷ [])
    (before_true window truth id.thread id.index stops.0.before) (stops.0.itself, tt))
    (stops_true window truth ids stops.1)
