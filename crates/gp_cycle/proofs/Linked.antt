-- The events of a cycle: each is before the next, and the last one before the first.
use Rattle.std.proofs.Common.{◌≡◌, refl, ap, sym, ◌∙◌, subst, inl, inr, arith, Bool, true, false, List, [], ◌∷◌, ◌++◌, ◌-◌, eqb-true, length}
use Rattle.std.specs.Prelude.{◌==◌, nat_le, if◌then◌else◌, Contains, Some, slice_get}
use Rattle.std.proofs.lemmas.Bool.{and_parts, cases_lt, false≢true, leb-true}
use Rattle.std.proofs.lemmas.List.Elements.{All-contains}
use Rattle.std.proofs.lemmas.Option.{none-some, same_Some}
use Rattle.gp_base.specs.ListLaws.{here, there}
use Rattle.gp_window.specs.declared.schedule.EventId.{EventId}
use Rattle.gp_window.specs.Ids.{is_same}
use Rattle.gp_window.specs.IdLaws.{same_id, same_itself}
use Rattle.gp_cycle.specs.declared.order.Order.{Order}
use Rattle.gp_cycle.specs.Cycle.{cycle_events, events_behind, last_event, leads, order_events}
use Rattle.gp_cycle.specs.Laws.{AreLinked, GoRound, IsBefore, IsCycle, LeadsOn}

-- an order that leads to another ends before it in its thread, or with the event with which that begins
led_before : (orders : List Order) (order next : Order) → leads order next ≡ true → is_same next.one order.other ≡ false → IsBefore orders order.other next.one
led_before orders order next led apart =
    inl (
      thread,
      elim (cases_lt order.other.index next.one.index) [
        | inl below ↦ below
        | inr above ↦
            let index : order.other.index ≡ next.one.index = omega (arith, above, leb-true order.other.index next.one.index parts.1) in
            let same : next.one ≡ order.other = λ i. record { thread = sym thread i; index = sym index i } in
            absurd (false≢true (sym apart ∙ ap (λ (event : EventId). is_same event order.other) same ∙ same_itself order.other))
      ],
    )
  where
    parts : ((order.other.thread == next.one.thread) ≡ true) × (nat_le order.other.index next.one.index ≡ true)
    parts = and_parts (order.other.thread == next.one.thread) (nat_le order.other.index next.one.index) led

    thread : order.other.thread ≡ next.one.thread
    thread = eqb-true order.other.thread next.one.thread parts.0

-- an order behind one that leads to it
order_linked : (orders : List Order) (before next : Order) (more : List EventId) (goal : EventId) (same : Bool) → is_same next.one before.other ≡ same → Contains orders next → leads before next ≡ true
    → AreLinked (IsBefore orders) next.other more goal
    → AreLinked (IsBefore orders) before.other ((if same then next.other ∷ [] else next.one ∷ next.other ∷ []) ++ more) goal
order_linked orders before next more goal true same among led rest = (
  inr (subst (λ (event : EventId). Contains orders (record { one = event; other = next.other })) (same_id next.one before.other same) among),
  rest,
)
order_linked orders before next more goal false apart among led rest = (led_before orders before next led apart, (inr among, rest))

behind_linked : (orders : List Order) (order : Order) (rest : List Order) (goal : Order) (end : EventId) → ((o : Order) → Contains rest o → Contains orders o) → LeadsOn order rest goal
    → IsBefore orders (last_event order rest) end → AreLinked (IsBefore orders) order.other (events_behind order.other rest) end
behind_linked orders order [] goal end among led last = last
behind_linked orders order (next ∷ rest) goal end among led last =
    order_linked orders order next (events_behind next.other rest) end (is_same next.one order.other) refl (among next (here next rest)) led.0
    (behind_linked orders next rest goal end (λ o i. among o (there next rest o i)) led.1 last)

-- the last of orders that lead on leads to the goal
last_leads : (order : Order) (rest : List Order) (goal : Order) → LeadsOn order rest goal → (last : Order) × (last.other ≡ last_event order rest) × (leads last goal ≡ true)
last_leads order [] goal led = (order, refl, led)
last_leads order (next ∷ rest) goal led = last_leads next rest goal led.1

round_at : (orders : List Order) (order last : Order) (rest : List Order) (same : Bool) → is_same order.one last.other ≡ same → last.other ≡ last_event order rest → leads last order ≡ true
    → Contains orders order → ((o : Order) → Contains rest o → Contains orders o) → LeadsOn order rest order
    → GoRound (IsBefore orders) ((if same then order.other ∷ [] else order.one ∷ order.other ∷ []) ++ events_behind order.other rest)
round_at orders order last rest true same end led among others round =
    behind_linked orders order rest order order.other others round
    (inr (subst (λ (event : EventId). Contains orders (record { one = event; other = order.other })) (same_id order.one last.other same ∙ end) among))
round_at orders order last rest false apart end led among others round = (
  inr among,
  behind_linked orders order rest order order.one others round
      (subst (λ (event : EventId). IsBefore orders event order.one) end (led_before orders last order led apart)),
)

pub events_round : (orders cycle : List Order) → IsCycle orders cycle → GoRound (IsBefore orders) (cycle_events cycle)
events_round orders [] round = round
events_round orders (order ∷ rest) round =
    subst (λ (event : EventId). GoRound (IsBefore orders) (order_events event order ++ events_behind order.other rest)) last.1
    (round_at orders order last.0 rest (is_same order.one last.0.other) refl last.1 last.2 (in_cycle order (here order rest))
    (λ o i. in_cycle o (there order rest o i)) round.1)
  where
    last : (one : Order) × (one.other ≡ last_event order rest) × (leads one order ≡ true)
    last = last_leads order rest order round.1

    in_cycle : (o : Order) → Contains (order ∷ rest) o → Contains orders o
    in_cycle o i = All-contains (Contains orders) (order ∷ rest) o round.0 i

-- the events of a cycle are told behind the later event of its last order
last_at : (order : Order) (rest : List Order) (last : Order) → Some last ≡ slice_get (order ∷ rest) (length rest) → last_event order rest ≡ last.other
last_at order [] last is = ap (λ (o : Order). o.other) (sym (same_Some last order is))
last_at order (next ∷ rest) last is = last_at next rest last is

pub last_told : (cycle : List Order) (last : Order) → Some last ≡ slice_get cycle (length cycle - 1) → events_behind last.other cycle ≡ cycle_events cycle
last_told [] last is = absurd (none-some last (sym is))
last_told (order ∷ rest) last is =
    let end : length (order ∷ rest) - 1 ≡ length rest = omega arith in
    ap (λ (event : EventId). events_behind event (order ∷ rest)) (sym (last_at order rest last (is ∙ ap (slice_get (order ∷ rest)) end)))
