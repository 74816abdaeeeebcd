-- The events of a cycle that is told are forced to be before one another.
use Rattle.std.proofs.Common.{ℕ, ◌≡◌, refl, ap, ◌∙◌, inl, inr, List, [], ◌∷◌}
use Rattle.std.specs.Prelude.{◌⊎◌, Option, None, Some, Contains}
use Rattle.gp_base.specs.ListLaws.{contains_from_flat_map, contains_from_map, first_or_rest, nothing_in}
use Rattle.gp_certificate.specs.declared.step.Step.{Step}
use Rattle.gp_clause.specs.declared.lit.Lit.{Lit}
use Rattle.gp_clause.specs.Lit.{negations}
use Rattle.gp_constraint.specs.declared.symbol.Symbol.{Symbol}
use Rattle.gp_constraint.specs.PointIds.{id_at}
use Rattle.gp_constraint.specs.Points.{points_of}
use Rattle.gp_cycle.specs.declared.order.Order.{Order}
use Rattle.gp_cycle.specs.Cycle.{cycle_events, cycle_of}
use Rattle.gp_cycle.specs.Laws.{AreLinked, CycleEventsGoRound, CyclesAreCycles, ForcedIsDerived, GoRound, IsBefore}
use Rattle.gp_window.specs.declared.schedule.EventId.{EventId}
use Rattle.gp_window.specs.WindowForm.{WindowForm}
use Rattle.gp_reason.specs.declared.fact.Fact.{Fact}
use Rattle.gp_reason.specs.declared.fact.Fact.TheVariants.{Before}
use Rattle.gp_reason.specs.Cycles.{cycle_by, cycle_told, events_of, forced_in, hinted, order_said, orders_of}
use Rattle.gp_reason.specs.Facts.{fact_of}
use Rattle.gp_reason.specs.Laws.{IsForcedBefore}

-- a fact that says an order says that one event is before the other
said_before : (fact : Fact) (order : Order) → Contains (order_said fact) order → fact ≡ Before order.one order.other
said_before (Before one other) order i =
    elim (first_or_rest (record { one = one; other = other }) [] order i) [
      | inl same ↦ ap (λ (o : Order). Before o.one o.other) same
      | inr none ↦ absurd (nothing_in order none)
    ]
said_before fact order i = absurd (nothing_in order i)

-- an order that literals say is said by one of them
said_by : (window : WindowForm) (names : List Symbol) (lits : List Lit) (one other : EventId) → Contains (orders_of window names lits) (record { one = one; other = other })
    → (lit : Lit) × Contains lits lit × (fact_of names (id_at (points_of window)) lit ≡ Before one other)
said_by window names lits one other i =
    let fact = contains_from_flat_map order_said _ (record { one = one; other = other }) i in
    let lit = contains_from_map (fact_of names (id_at (points_of window))) lits fact.0 fact.1 in
    (lit.0, lit.1, lit.2 ∙ said_before fact.0 (record { one = one; other = other }) fact.2)

-- events that go round by one relation go round by one that it implies
linked_too : (Is More : EventId → EventId → Type 0) → ((one other : EventId) → Is one other → More one other) → (event : EventId) (events : List EventId) (goal : EventId)
    → AreLinked Is event events goal → AreLinked More event events goal
linked_too Is More implies event [] goal linked = implies event goal linked
linked_too Is More implies event (next ∷ events) goal linked = (implies event next linked.0, linked_too Is More implies next events goal linked.1)

round_too : (Is More : EventId → EventId → Type 0) → ((one other : EventId) → Is one other → More one other) → (events : List EventId) → GoRound Is events → GoRound More events
round_too Is More implies [] round = round
round_too Is More implies (event ∷ events) round = linked_too Is More implies event events event round

before_forced : ForcedIsDerived → (window : WindowForm) (names : List Symbol) (clauses : List (List Lit)) (number : ℕ) (step : Step) (lits : List Lit) → forced_in clauses number step ≡ Some lits
    → (one other : EventId) → IsBefore (orders_of window names lits) one other → IsForcedBefore window names clauses number step one other
before_forced derived window names clauses number step lits is one other (inl same) = inl same
before_forced derived window names clauses number step lits is one other (inr among) =
    let said = said_by window names lits one other among in
    inr (said.0, (derived.derived (negations step.clause) (hinted clauses number step.hints) lits is said.0).0 said.1, said.2)

told_at : CyclesAreCycles → CycleEventsGoRound → (More : EventId → EventId → Type 0) (orders : List Order) → ((one other : EventId) → IsBefore orders one other → More one other)
    → (found : Option (List Order)) → cycle_of orders ≡ found → (events_of found ≡ []) ⊎ GoRound More (events_of found)
told_at cycles rounds More orders implies None is = inl refl
told_at cycles rounds More orders implies (Some cycle) is = inr (round_too (IsBefore orders) More implies (cycle_events cycle) (rounds orders cycle (cycles orders cycle is)))

forced_at : ForcedIsDerived → CyclesAreCycles → CycleEventsGoRound → (window : WindowForm) (names : List Symbol) (clauses : List (List Lit)) (number : ℕ) (step : Step)
    → (found : Option (List Lit)) → forced_in clauses number step ≡ found
    → (cycle_by window names found ≡ []) ⊎ GoRound (IsForcedBefore window names clauses number step) (cycle_by window names found)
forced_at derived cycles rounds window names clauses number step None is = inl refl
forced_at derived cycles rounds window names clauses number step (Some lits) is =
    told_at cycles rounds (IsForcedBefore window names clauses number step) (orders_of window names lits) (before_forced derived window names clauses number step lits is)
    (cycle_of (orders_of window names lits)) refl

pub cycle_forced : ForcedIsDerived → CyclesAreCycles → CycleEventsGoRound → (window : WindowForm) (names : List Symbol) (clauses : List (List Lit)) (number : ℕ) (step : Step)
    → (cycle_told window names clauses number step ≡ []) ⊎ GoRound (IsForcedBefore window names clauses number step) (cycle_told window names clauses number step)
unfolding cycle_told
cycle_forced derived cycles rounds window names clauses number step =
    forced_at derived cycles rounds window names clauses number step (forced_in clauses number step) refl
