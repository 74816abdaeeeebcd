-- Events that go round by orders and along threads lie on a cycle of the orders.
use Rattle.std.proofs.Common.{◌≡◌, ◌<◌, ◌≤◌, ◌∙◌, refl, inl, inr, arith, true, List, [], ◌∷◌, All, Contains, eq-eqb}
use Rattle.std.specs.Prelude.{◌⊎◌, ◌==◌, nat_le}
use Rattle.std.proofs.lemmas.Bool.{and_from, le-leb}
use Rattle.std.proofs.lemmas.List.Elements.{All-cons, All-nil}
use Rattle.gp_cycle.specs.declared.order.Order.{Order}
use Rattle.gp_cycle.specs.Cycle.{leads}
use Rattle.gp_cycle.specs.Laws.{AreLinked, GoRound, IsBefore, IsCycle, LeadsOn}
use Rattle.gp_window.specs.declared.schedule.EventId.{EventId}

-- an event is another, or before it in the same thread
abbrev IsUpTo : EventId → EventId → Type 0
IsUpTo one other = (one.thread ≡ other.thread) × (one.index ≤ other.index)

-- each order leads to the next, and the last one up to an event
abbrev LeadsTo : Order → List Order → EventId → Type 0
LeadsTo last [] goal = IsUpTo last.other goal
LeadsTo last (next ∷ rest) goal = (leads last next ≡ true) × LeadsTo next rest goal

-- from an event up to the first of some orders, and along them up to another
record IsPath (orders : List Order) (event goal : EventId) : Type 0 where
  first : Order
  rest : List Order
  among : All (Contains orders) (first ∷ rest)
  begins : IsUpTo event first.one
  leads_on : LeadsTo first rest goal

leads_to : (order next : Order) → IsUpTo order.other next.one → leads order next ≡ true
leads_to order next up = and_from (order.other.thread == next.one.thread) (nat_le order.other.index next.one.index) (eq-eqb order.other.thread next.one.thread up.0) (le-leb order.other.index next.one.index up.1)

up_to_on : (a b c : EventId) → IsUpTo a b → IsUpTo b c → IsUpTo a c
up_to_on a b c one two = let first = one.1 in let second = two.1 in (one.0 ∙ two.0, omega (arith, first, second))

-- one event before another in its thread, or orders between them
path : (orders : List Order) (event : EventId) (events : List EventId) (goal : EventId) → AreLinked (IsBefore orders) event events goal
    → ((event.thread ≡ goal.thread) × (event.index < goal.index)) ⊎ IsPath orders event goal
path orders event [] goal (inl along) = inl along
path orders event [] goal (inr order) = inr (record {
  first = record { one = event; other = goal };
  rest = [];
  among = All-cons (Contains orders) (record { one = event; other = goal }) [] order (All-nil _);
  begins = (refl, omega arith);
  leads_on = (refl, omega arith);
})
path orders event (next ∷ events) goal (inl along, linked) =
    let less = along.1 in
    elim (path orders next events goal linked) [
      | inl later ↦ let more = later.1 in inl (along.0 ∙ later.0, omega (arith, less, more))
      | inr rest ↦ inr (record { first = rest.first; rest = rest.rest; among = rest.among; begins = up_to_on event next rest.first.one (along.0, omega (arith, less)) rest.begins; leads_on = rest.leads_on })
    ]
path orders event (next ∷ events) goal (inr order, linked) =
    elim (path orders next events goal linked) [
      | inl later ↦
          let less = later.1 in
          inr (record {
            first = record { one = event; other = next };
            rest = [];
            among = All-cons (Contains orders) (record { one = event; other = next }) [] order (All-nil _);
            begins = (refl, omega arith);
            leads_on = (later.0, omega (arith, less));
          })
      | inr rest ↦
          inr (record {
            first = record { one = event; other = next };
            rest = rest.first ∷ rest.rest;
            among = All-cons (Contains orders) (record { one = event; other = next }) (rest.first ∷ rest.rest) order rest.among;
            begins = (refl, omega arith);
            leads_on = (leads_to (record { one = event; other = next }) rest.first rest.begins, rest.leads_on);
          })
    ]

closed : (last : Order) (rest : List Order) (event : EventId) (goal : Order) → LeadsTo last rest event → IsUpTo event goal.one → LeadsOn last rest goal
closed last [] event goal leads_on up = leads_to last goal (up_to_on last.other event goal.one leads_on up)
closed last (next ∷ rest) event goal leads_on up = (leads_on.0, closed next rest event goal leads_on.1 up)

pub cycle_round : (orders : List Order) (events : List EventId) → GoRound (IsBefore orders) events → (cycle : List Order) × IsCycle orders cycle
cycle_round orders [] round = absurd round
cycle_round orders (event ∷ events) round =
    elim (path orders event events event round) [
      | inl along ↦ let less = along.1 in absurd (omega (arith, less))
      | inr found ↦ (found.first ∷ found.rest, (found.among, closed found.first found.rest event found.first found.leads_on found.begins))
    ]
