-- When a cycle is told: where orders lead round, and so where a step passes by orders alone.
use Rattle.std.proofs.Common.{ℕ, zero, suc, ◌≡◌, ◌<◌, ◌-◌, refl, ap, sym, ◌∙◌, subst, inl, inr, arith, Bool, true, false, List, [], ◌∷◌, ◌++◌, Contains, length, map}
use Rattle.std.specs.Prelude.{◌⊎◌, ◌↔◌, ◌==◌, negsuc, Option, None, Some, slice_get}
use Rattle.std.proofs.lemmas.Bool.{eqb-false}
use Rattle.std.proofs.lemmas.Int.{ints}
use Rattle.std.proofs.lemmas.List.Elements.{All-contains, Contains-append_cases}
use Rattle.std.proofs.lemmas.Option.{none-some, same_Some}
use Rattle.gp_base.specs.ListLaws.{contains_flat_map, contains_from_flat_map, contains_from_unless, contains_map, here}
use Rattle.gp_certificate.specs.declared.certificate.Certificate.{Certificate}
use Rattle.gp_certificate.specs.declared.step.Step.{Step}
use Rattle.gp_certificate.specs.Shared.{ChecksOver}
use Rattle.gp_certificate.specs.Step.{IsDerivedBound, LeadsToConflict}
use Rattle.gp_clause.specs.declared.edge.Edge.{Edge}
use Rattle.gp_clause.specs.declared.kind.Kind.{Kind}
use Rattle.gp_clause.specs.declared.lit.Lit.{Lit}
use Rattle.gp_clause.specs.Kind.{bound_of}
use Rattle.gp_clause.specs.Lit.{negations}
use Rattle.gp_clause.specs.Problem.{IsValidProblem}
use Rattle.gp_clause.specs.Walk.{HasNegativeCycle, IsAmong, IsWalk}
use Rattle.gp_constraint.specs.declared.point.Point.{Point}
use Rattle.gp_constraint.specs.declared.symbol.Symbol.{Symbol}
use Rattle.gp_constraint.specs.declared.symbol.Symbol.TheVariants.{Executed, Order, Choice, StartChoice, First, Last, Signal, Span}
use Rattle.gp_constraint.specs.Base.{base_of}
use Rattle.gp_constraint.specs.PointIds.{id_at, id_in}
use Rattle.gp_constraint.specs.PointLaws.{event_id, point_there, points_named}
use Rattle.gp_constraint.specs.Points.{number_in, points_of}
use Rattle.gp_constraint.specs.ProgramOrder.{edge_to}
use Rattle.gp_constraint.specs.Query.{query_names, query_of}
use Rattle.gp_constraint.specs.Symbols.{kind_of}
use Rattle.gp_constraint.specs.Truths.{TruthsAreNumbered}
use Rattle.gp_cycle.specs.declared.order.Order.{Order as OrderOfEvents}
use Rattle.gp_cycle.specs.Cycle.{cycle_of}
use Rattle.gp_cycle.specs.Laws.{AreLinked, CycleEventsGoRound, CyclesAreCycles, CyclesAreFound, ForcedIsDerived, GoRound, IsBefore}
use Rattle.gp_property.specs.PropertyForm.{PropertyForm}
use Rattle.gp_trace.specs.declared.event.Event.{Event}
use Rattle.gp_window.specs.declared.schedule.EventId.{EventId}
use Rattle.gp_window.specs.Events.{event_at, segment_of}
use Rattle.gp_window.specs.WindowForm.{WindowForm}
use Rattle.gp_reason.specs.declared.fact.Fact.{Fact}
use Rattle.gp_reason.specs.declared.fact.Fact.TheVariants.{Before}
use Rattle.gp_reason.specs.Cycles.{cycle_by, cycle_told, events_of, forced_in, hinted, numbered_clauses, order_said, orders_of}
use Rattle.gp_reason.specs.Facts.{fact_by, fact_named, fact_of, facts_of}
use Rattle.gp_reason.specs.Laws.{CyclesAreForced, GroundsAreEnough, IsForcedBefore}
use Rattle.gp_reason.specs.Told.{NumberedStep, told_of}
use Rattle.gp_reasoned.specs.Laws.{DerivesDistance, EndsInConflict, IsDistance}
use Rattle.gp_reasoned.proofs.Rounds.{cycle_round}

-- events that go round by one relation go round by one that it implies
linked_too : (Is More : EventId → EventId → Type 0) → ((one other : EventId) → Is one other → More one other) → (event : EventId) (events : List EventId) (goal : EventId)
    → AreLinked Is event events goal → AreLinked More event events goal
linked_too Is More implies event [] goal linked = implies event goal linked
linked_too Is More implies event (next ∷ events) goal linked = (implies event next linked.0, linked_too Is More implies next events goal linked.1)

round_too : (Is More : EventId → EventId → Type 0) → ((one other : EventId) → Is one other → More one other) → (events : List EventId) → GoRound Is events → GoRound More events
round_too Is More implies [] round = round
round_too Is More implies (event ∷ events) round = linked_too Is More implies event events event round

-- where an event is forced before another, what is forced has an order that says so
said_again : ForcedIsDerived → (window : WindowForm) (names : List Symbol) (clauses : List (List Lit)) (number : ℕ) (step : Step) (lits : List Lit) → forced_in clauses number step ≡ Some lits
    → (one other : EventId) → IsForcedBefore window names clauses number step one other → IsBefore (orders_of window names lits) one other
said_again derived window names clauses number step lits is one other (inl along) = inl along
said_again derived window names clauses number step lits is one other (inr (lit, from, says)) =
    inr (contains_flat_map order_said (facts_of window names lits) (fact_of names (id_at (points_of window)) lit) order
    (contains_map (fact_of names (id_at (points_of window))) lits lit ((derived.derived (negations step.clause) (hinted clauses number step.hints) lits is lit).1 from))
    (subst (λ (fact : Fact). Contains (order_said fact) order) (sym says) (here order [])))
  where
    order : OrderOfEvents
    order = record { one = one; other = other }

-- where no cycle of orders is told, they lead no events round
no_round : CyclesAreCycles → CycleEventsGoRound → CyclesAreFound → (orders : List OrderOfEvents) (found : Option (List OrderOfEvents)) → cycle_of orders ≡ found → events_of found ≡ []
    → (events : List EventId) → GoRound (IsBefore orders) events → ⊥
no_round cycles rounds all orders None is told events round = let cycle = cycle_round orders events round in all orders cycle.0 is cycle.1
no_round cycles rounds all orders (Some cycle) is told events round = subst (GoRound (IsBefore orders)) told (rounds orders cycle (cycles orders cycle is))

no_cycle : ForcedIsDerived → CyclesAreCycles → CycleEventsGoRound → CyclesAreFound → (window : WindowForm) (names : List Symbol) (clauses : List (List Lit)) (number : ℕ) (step : Step)
    → (found : Option (List Lit)) → forced_in clauses number step ≡ found → cycle_by window names found ≡ []
    → EndsInConflict clauses number step ⊎ ((events : List EventId) → GoRound (IsForcedBefore window names clauses number step) events → ⊥)
no_cycle derived cycles rounds all window names clauses number step None is told = inl ((derived.conflicts (negations step.clause) (hinted clauses number step.hints)).0 is)
no_cycle derived cycles rounds all window names clauses number step (Some lits) is told =
    inr (λ events round. no_round cycles rounds all (orders_of window names lits) (cycle_of (orders_of window names lits)) refl told events
    (round_too (IsForcedBefore window names clauses number step) (IsBefore (orders_of window names lits)) (said_again derived window names clauses number step lits is) events round))

none_again : CyclesAreForced → ForcedIsDerived → (window : WindowForm) (names : List Symbol) (clauses : List (List Lit)) (number : ℕ) (step : Step)
    → EndsInConflict clauses number step ⊎ ((events : List EventId) → GoRound (IsForcedBefore window names clauses number step) events → ⊥) → cycle_told window names clauses number step ≡ []
unfolding cycle_told
none_again law derived window names clauses number step (inl conflict) =
    ap (cycle_by window names) ((derived.conflicts (negations step.clause) (hinted clauses number step.hints)).1 conflict)
none_again law derived window names clauses number step (inr none) =
    elim (law window names clauses number step) [
      | inl told ↦ told
      | inr round ↦ absurd (none (cycle_told window names clauses number step) round)
    ]

-- no cycle is told exactly where a clause becomes false or nothing goes round
pub none_told : CyclesAreForced → ForcedIsDerived → CyclesAreCycles → CycleEventsGoRound → CyclesAreFound → (window : WindowForm) (names : List Symbol) (clauses : List (List Lit)) (number : ℕ) (step : Step)
    → (cycle_told window names clauses number step ≡ [])
    ↔ (EndsInConflict clauses number step ⊎ ((events : List EventId) → GoRound (IsForcedBefore window names clauses number step) events → ⊥))
unfolding cycle_told
none_told law derived cycles rounds all window names clauses number step = (
  no_cycle derived cycles rounds all window names clauses number step (forced_in clauses number step) refl,
  none_again law derived window names clauses number step,
)

-- one event is before another in its thread
abbrev IsAlong : EventId → EventId → Type 0
IsAlong one other = (one.thread ≡ other.thread) × (one.index < other.index)

got_before : (events : List Event) (index : ℕ) (event : Event) → slice_get events (suc index) ≡ Some event → (earlier : Event) × (slice_get events index ≡ Some earlier)
got_before [] index event got = absurd (none-some event got)
got_before (first ∷ events) zero event got = (first, refl)
got_before (first ∷ events) (suc index) event got = got_before events index event got

-- the point before that of an event that is not its thread's first is that of the event before
before_at : (window : WindowForm) (f : Point) → Contains (points_of window) f → (index : ℕ) → f.id.index ≡ index → (index ≡ 0 → ⊥)
    → IsAlong (id_at (points_of window) (f.number - 1)) (id_at (points_of window) f.number)
before_at window f i zero is some = absurd (some refl)
before_at window f i (suc index) is some =
    let own = (points_named window).own f i in
    let earlier = got_before (segment_of window f.id.thread) index own.0 (subst (λ (n : ℕ). event_at window (event_id f.id.thread n) ≡ Some own.0) is own.1) in
    let point = (points_named window).all (event_id f.id.thread index) earlier.0 earlier.1 in
    let numbered : f.number ≡ number_in window (event_id f.id.thread (suc index)) = own.3 ∙ ap (λ (n : ℕ). number_in window (event_id f.id.thread n)) is in
    let next = (points_named window).next f.id.thread index in
    let number : f.number - 1 ≡ number_in window (event_id f.id.thread index) = omega (arith, numbered, next) in
    let first : id_at (points_of window) (f.number - 1) ≡ event_id f.id.thread index = ap (id_at (points_of window)) number ∙ ap id_in (point_there window _ point) in
    let second : id_at (points_of window) f.number ≡ f.id = ap id_in (point_there window f i) in
    let left : (id_at (points_of window) (f.number - 1)).index ≡ index = ap (λ (e : EventId). e.index) first in
    let right : (id_at (points_of window) f.number).index ≡ f.id.index = ap (λ (e : EventId). e.index) second in
    (ap (λ (e : EventId). e.thread) first ∙ sym (ap (λ (e : EventId). e.thread) second), omega (arith, left, right, is))

-- an edge of a window leads along a thread
along : (window : WindowForm) (edge : Edge) → Contains (base_of window).edges edge → IsAlong (id_at (points_of window) edge.a) (id_at (points_of window) edge.b)
along window edge i =
    let f = contains_from_flat_map edge_to (points_of window) edge i in
    let own = contains_from_unless (f.0.id.index == 0) (record { a = f.0.number - 1; b = f.0.number; c = negsuc 0 }) edge f.2 in
    subst (λ (e : Edge). IsAlong (id_at (points_of window) e.a) (id_at (points_of window) e.b)) own.1 (before_at window f.0 f.1 f.0.id.index refl (eqb-false f.0.id.index 0 own.0))

-- a variable with a kind has a symbol
symbol_at : (names : List Symbol) (variable : ℕ) (kind : Kind) → slice_get (map kind_of names) variable ≡ Some kind
    → (symbol : Symbol) × (slice_get names variable ≡ Some symbol) × (kind_of symbol ≡ kind)
symbol_at [] variable kind got = absurd (none-some kind got)
symbol_at (name ∷ names) zero kind got = (name, refl, same_Some (kind_of name) kind got)
symbol_at (name ∷ names) (suc variable) kind got = symbol_at names variable kind got

-- a bound is a distance, or says that one event is before another
bound_fact : (event : ℕ → EventId) (symbol : Symbol) (positive : Bool) (edge : Edge) → bound_of (kind_of symbol) positive ≡ Some edge
    → IsDistance (fact_by event symbol positive) ⊎ (fact_by event symbol positive ≡ Before (event edge.a) (event edge.b))
bound_fact event (Executed p) positive edge is = absurd (none-some edge is)
bound_fact event (Order a b) true edge is = inr (ap (λ (e : Edge). Before (event e.a) (event e.b)) (same_Some (record { a = a; b = b; c = negsuc 0 }) edge is))
bound_fact event (Order a b) false edge is = inr (ap (λ (e : Edge). Before (event e.a) (event e.b)) (same_Some (record { a = b; b = a; c = negsuc 0 }) edge is))
bound_fact event (Choice r w) positive edge is = absurd (none-some edge is)
bound_fact event (StartChoice r) positive edge is = absurd (none-some edge is)
bound_fact event (First a b) positive edge is = absurd (none-some edge is)
bound_fact event (Last w) positive edge is = absurd (none-some edge is)
bound_fact event (Signal w g) positive edge is = absurd (none-some edge is)
bound_fact event (Span a b c) true edge is = inl tt
bound_fact event (Span a b c) false edge is = inl tt

-- so it says a distance that is derived, or that one event is forced before another
bound_forces : (window : WindowForm) (names : List Symbol) (clauses : List (List Lit)) (number : ℕ) (step : Step) (edge : Edge)
    → IsDerivedBound (map kind_of names) (hinted clauses number step.hints) (negations step.clause) edge
    → DerivesDistance window names clauses number step ⊎ IsForcedBefore window names clauses number step (id_at (points_of window) edge.a) (id_at (points_of window) edge.b)
bound_forces window names clauses number step edge (lit, kind, from, at, is) =
    let symbol = symbol_at names lit.variable kind at in
    let named : fact_of names event lit ≡ fact_by event symbol.0 lit.positive = ap (fact_named event lit) symbol.1 in
    elim (bound_fact event symbol.0 lit.positive edge (ap (λ (k : Kind). bound_of k lit.positive) symbol.2 ∙ is)) [
      | inl distance ↦ inl (lit, from, subst IsDistance (sym named) distance)
      | inr says ↦ inr (inr (lit, from, named ∙ says))
    ]
  where
    event : ℕ → EventId
    event = id_at (points_of window)

-- a walk over edges each of which says something unheard of, or that one event is before another, goes by such events
walked : (D : Type 0) (Is : EventId → EventId → Type 0) (event : ℕ → EventId) (all : List Edge) → ((edge : Edge) → Contains all edge → D ⊎ Is (event edge.a) (event edge.b))
    → (edge : Edge) (edges : List Edge) (to : ℕ) → IsWalk edge.b edges to → IsAmong all (edge ∷ edges)
    → D ⊎ AreLinked Is (event edge.a) (map (λ (e : Edge). event e.a) edges) (event to)
walked D Is event all link edge [] to ends among =
    elim (link edge among.0) [
      | inl other ↦ inl other
      | inr is ↦ inr (subst (λ (point : ℕ). Is (event edge.a) (event point)) ends is)
    ]
walked D Is event all link edge (next ∷ edges) to goes among =
    elim (link edge among.0) [
      | inl other ↦ inl other
      | inr is ↦ elim (walked D Is event all link next edges to goes.1 among.1) [
        | inl other ↦ inl other
        | inr rest ↦ inr (subst (λ (point : ℕ). Is (event edge.a) (event point)) (sym goes.0) is, rest)
      ]
    ]

-- so a negative cycle over such edges goes round
goes_round : (D : Type 0) (Is : EventId → EventId → Type 0) (event : ℕ → EventId) (all : List Edge) → ((edge : Edge) → Contains all edge → D ⊎ Is (event edge.a) (event edge.b))
    → HasNegativeCycle all → D ⊎ ((events : List EventId) × GoRound Is events)
goes_round D Is event all link (point, [], cycle) = let below = cycle.negative in absurd (omega (arith, ints, below))
goes_round D Is event all link (point, edge ∷ edges, cycle) =
    elim (walked D Is event all link edge edges point cycle.closed.1 cycle.among) [
      | inl other ↦ inl other
      | inr linked ↦
          inr (
            event edge.a ∷ map (λ (e : Edge). event e.a) edges,
            subst (λ (goal : ℕ). AreLinked Is (event edge.a) (map (λ (e : Edge). event e.a) edges) (event goal)) (sym cycle.closed.0) linked,
          )
    ]

-- where a step is refuted and no cycle is told of it, a clause becomes false or a distance is derived
refuted_by : CyclesAreForced → ForcedIsDerived → CyclesAreCycles → CycleEventsGoRound → CyclesAreFound → (window : WindowForm) (names : List Symbol) (clauses : List (List Lit)) (number : ℕ) (step : Step)
    → LeadsToConflict (base_of window).edges (map kind_of names) (hinted clauses number step.hints) (negations step.clause) → cycle_told window names clauses number step ≡ []
    → EndsInConflict clauses number step ⊎ DerivesDistance window names clauses number step
refuted_by law derived cycles rounds all window names clauses number step (inl conflict) none = inl conflict
refuted_by law derived cycles rounds all window names clauses number step (inr (bounds, from, cycle)) none =
    elim ((none_told law derived cycles rounds all window names clauses number step).0 none) [
      | inl conflict ↦ inl conflict
      | inr never ↦ elim (goes_round Distance Forced event ((base_of window).edges ++ bounds) link cycle) [
        | inl distance ↦ inr distance
        | inr round ↦ absurd (never round.0 round.1)
      ]
    ]
  where
    event : ℕ → EventId
    event = id_at (points_of window)

    Distance : Type 0
    Distance = DerivesDistance window names clauses number step

    Forced : EventId → EventId → Type 0
    Forced = IsForcedBefore window names clauses number step

    link : (edge : Edge) → Contains ((base_of window).edges ++ bounds) edge → Distance ⊎ Forced (event edge.a) (event edge.b)
    link edge i =
        elim (Contains-append_cases (base_of window).edges bounds edge i) [
          | inl fixed ↦ inr (inl (along window edge fixed))
          | inr bound ↦
              bound_forces window names clauses number step edge
              (All-contains (IsDerivedBound (map kind_of names) (hinted clauses number step.hints) (negations step.clause)) bounds edge from bound)
        ]

pub cycle_in : CyclesAreForced → ForcedIsDerived → CyclesAreCycles → CycleEventsGoRound → CyclesAreFound → GroundsAreEnough → TruthsAreNumbered
    → (window : WindowForm) (property : PropertyForm) (ids : List EventId) (shared : List Step) (certificate : Certificate) → IsValidProblem (base_of window)
    → ChecksOver (base_of window) shared (query_of window property ids) certificate → (told : NumberedStep) (hint : ℕ)
    → Contains (told_of (length (base_of window).clauses) shared certificate.steps) told → Contains told.step.hints hint
    → cycle_told window (query_names window property ids) (numbered_clauses window shared certificate.steps) told.number told.step ≡ []
    → EndsInConflict (numbered_clauses window shared certificate.steps) told.number told.step
    ⊎ DerivesDistance window (query_names window property ids) (numbered_clauses window shared certificate.steps) told.number told.step
cycle_in law derived cycles rounds all enough numbered window property ids shared certificate valid checks told hint is_told some none =
    let passes = enough.cited (base_of window) shared (query_of window property ids) certificate valid checks told hint is_told some in
    refuted_by law derived cycles rounds all window (query_names window property ids) clauses told.number told.step
    (subst (λ (kinds : List Kind). LeadsToConflict (base_of window).edges kinds (hinted clauses told.number told.step.hints) (negations told.step.clause)) (numbered.kinds window property ids) passes.refuted)
    none
  where
    clauses : List (List Lit)
    clauses = numbered_clauses window shared certificate.steps
