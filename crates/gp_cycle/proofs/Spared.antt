-- Counting on spares the orders on a cycle: what is no dead end by its next order on it becomes none.
use Rattle.std.proofs.Common.{ℕ, zero, suc, ◌≡◌, ◌≢◌, ◌+◌, ◌<◌, refl, ap, sym, ◌∙◌, subst, inl, inr, arith, true, List, [], ◌∷◌, drop, drop-cons, get_or, length, set}
use Rattle.std.specs.Prelude.{Option, None, Some, Contains, slice_get}
use Rattle.std.specs.Option.{option_map, option_or}
use Rattle.std.proofs.lemmas.Bool.{cases_order}
use Rattle.std.proofs.lemmas.List.{get_or-set_other, get_or-set_same, length-set}
use Rattle.std.proofs.lemmas.List.Elements.{All-contains}
use Rattle.std.proofs.lemmas.Option.{get_or_from_slice_get, same_Some, slice_get-get_or, slice_get_within}
use Rattle.gp_base.specs.ListLaws.{contains_got, first_or_rest, here, nothing_in, there}
use Rattle.gp_cycle.specs.declared.order.Order.{Order}
use Rattle.gp_cycle.specs.Cycle.{cycle_among, cycle_at, leads, shortest}
use Rattle.gp_cycle.specs.DeadEnds.{AreCounts, IsDeadEnd, SparesCycles, StopsAt}
use Rattle.gp_cycle.specs.Laws.{IsCycle, LeadsOn}
use Rattle.gp_cycle.proofs.Found.{cycle_from}

-- what stands in a list stands at a place
at_place : (orders : List Order) (order : Order) → Contains orders order → (place : ℕ) × (slice_get orders place ≡ Some order)
at_place orders order (place, within, is) = (place, slice_get-get_or orders place order within ∙ ap (λ (o : Order). Some o) is)

-- each order on a cycle leads to another one on it
next_in : (last : Order) (rest : List Order) (goal order : Order) → LeadsOn last rest goal → Contains (last ∷ rest) order
    → (next : Order) × (leads order next ≡ true) × Contains (goal ∷ rest) next
next_in last [] goal order led i =
    elim (first_or_rest last [] order i) [
      | inl same ↦ (goal, ap (λ (o : Order). leads o goal) (sym same) ∙ led, here goal [])
      | inr none ↦ absurd (nothing_in order none)
    ]
next_in last (next ∷ rest) goal order led i =
    elim (first_or_rest last (next ∷ rest) order i) [
      | inl same ↦ (next, ap (λ (o : Order). leads o next) (sym same) ∙ led.0, there goal (next ∷ rest) next (here next rest))
      | inr more ↦
          let on = next_in next rest goal order led.1 more in (
            on.0,
            on.1,
            elim (first_or_rest goal rest on.0 on.2) [
              | inl end ↦ subst (Contains (goal ∷ next ∷ rest)) end (here goal (next ∷ rest))
              | inr later ↦ there goal (next ∷ rest) on.0 (there next rest on.0 later)
            ],
          )
    ]

next_on : (orders cycle : List Order) (order : Order) → IsCycle orders cycle → Contains cycle order
    → (next : Order) × (leads order next ≡ true) × Contains cycle next × Contains orders next
next_on orders [] order round i = absurd (nothing_in order i)
next_on orders (first ∷ rest) order round i =
    let on = next_in first rest first order round.1 i in
    (on.0, on.1, on.2, All-contains (Contains orders) (first ∷ rest) on.0 round.0 on.2)

-- a count that grows keeps what is a dead end
still_dead : (orders : List Order) (old : List ℕ) (place next other : ℕ) → (IsDeadEnd orders old place → ⊥) → IsDeadEnd orders old other → IsDeadEnd orders (set old place next) other
still_dead orders old place next other live dead =
    elim (cases_order other place) [
      | inl same ↦ absurd (live (subst (IsDeadEnd orders old) same dead))
      | inr apart ↦
          let differ : other ≢ place = λ e. elim apart [ inl below ↦ omega (arith, below, e) | inr above ↦ omega (arith, above, e) ] in
          rw (get_or-set_other old place other next 0 differ) dead
    ]

-- one count more
pub counts_more : (orders : List Order) (old new : List ℕ) (place next : ℕ) (order : Order) → AreCounts orders old → place < length orders → slice_get orders place ≡ Some order
    → (IsDeadEnd orders old place → ⊥) → ((other : ℕ) → other < next → StopsAt orders old order other) → new ≡ set old place next → AreCounts orders new
counts_more orders old new place next order counts within at live stops is =
    subst (AreCounts orders) (sym is) (record {
      size = length-set old place next ∙ counts.size;
      stops = stops_too;
      spares = λ cycle spot one round i there_at dead.
          elim (cases_order spot place) [
            | inl same ↦ spared cycle round (subst (Contains cycle) (same_Some one order (sym there_at ∙ ap (slice_get orders) same ∙ at)) i) (subst (IsDeadEnd orders (set old place next)) same dead)
            | inr apart ↦
                let differ : spot ≢ place = λ e. elim apart [ inl below ↦ omega (arith, below, e) | inr above ↦ omega (arith, above, e) ] in
                counts.spares cycle spot one round i there_at (rw (get_or-set_other old place spot next 0 differ) at dead)
          ];
    })
  where
    longer : get_or (set old place next) place 0 ≡ next
    longer = get_or-set_same old place next 0 (let size = counts.size in omega (arith, size, within))

    stops_too : (spot other : ℕ) (one : Order) → slice_get orders spot ≡ Some one → other < get_or (set old place next) spot 0 → StopsAt orders (set old place next) one other
    stops_too spot other one one_at less behind behind_at led = still_dead orders old place next other live (elim (cases_order spot place) [
      | inl same ↦
          let below : other < next = let grown = ap (λ (p : ℕ). get_or (set old place next) p 0) same in omega (arith, less, grown, longer) in
          stops other below behind behind_at
          (subst (λ (o : Order). leads o behind ≡ true) (same_Some one order (sym one_at ∙ ap (slice_get orders) same ∙ at)) led)
      | inr apart ↦
          let differ : spot ≢ place = λ e. elim apart [ inl below ↦ omega (arith, below, e) | inr above ↦ omega (arith, above, e) ] in
          let kept = get_or-set_other old place spot next 0 differ in
          counts.stops spot other one one_at (omega (arith, less, kept)) behind behind_at led
    ])

    spared : (cycle : List Order) → IsCycle orders cycle → Contains cycle order → IsDeadEnd orders (set old place next) place → ⊥
    spared cycle round i dead =
        let on = next_on orders cycle order round i in
        let spot = at_place orders on.0 on.3 in
        let here_too = slice_get_within orders spot.0 on.0 spot.1 in
        counts.spares cycle spot.0 on.0 round on.2 spot.1 (stops spot.0 (omega (arith, dead, longer, here_too)) on.0 spot.1 on.1)

-- through a dead end there is no cycle
pub none_through : (orders : List Order) (counts : List ℕ) (place : ℕ) (order : Order) → SparesCycles orders counts → slice_get orders place ≡ Some order → IsDeadEnd orders counts place
    → None ≡ cycle_at orders order
none_through orders counts place order spares at dead = where_none (shortest orders (length orders) 0 order order) refl
  where
    where_none : (own : Option (List Order)) → shortest orders (length orders) 0 order order ≡ own → None ≡ option_map (λ rest. order ∷ rest) own
    where_none None is = refl
    where_none (Some rest) is =
        absurd (spares (order ∷ rest) place order (cycle_from orders order rest (contains_got orders place order at) is) (here order rest) at dead)

-- the order at a place is the next that is tried
some_at : (orders : List Order) (place : ℕ) → place < length orders → (order : Order) × (slice_get orders place ≡ Some order)
some_at [] place within = absurd (omega (arith, within))
some_at (order ∷ orders) zero within = (order, refl)
some_at (order ∷ orders) (suc place) within = some_at orders place (omega (arith, within))

next_tried : (orders : List Order) (place next : ℕ) (whole found : Option (List Order)) → next ≡ place + 1 → place < length orders → cycle_among orders (drop place orders) ≡ whole
    → ((order : Order) → slice_get orders place ≡ Some order → found ≡ cycle_at orders order) → option_or found (cycle_among orders (drop next orders)) ≡ whole
next_tried orders place next whole found after within leads is =
    let at = some_at orders place within in
    let end : suc place ≡ next = omega (arith, after) in
    let here_is : get_or orders place at.0 ≡ at.0 = get_or_from_slice_get orders place at.0 at.0 at.1 in
    ap (λ (own : Option (List Order)). option_or own (cycle_among orders (drop next orders))) (is at.0 at.1)
    ∙ ap (λ (n : ℕ). option_or (cycle_at orders at.0) (cycle_among orders (drop n orders))) (sym end)
    ∙ ap (λ (o : Order). cycle_among orders (o ∷ drop (suc place) orders)) (sym here_is)
    ∙ ap (cycle_among orders) (sym (drop-cons orders place at.0 within))
    ∙ leads

-- there is no cycle through it, or there is
pub tried_in_vain : (orders : List Order) (place next : ℕ) (whole found : Option (List Order)) → next ≡ place + 1 → place < length orders → cycle_among orders (drop place orders) ≡ whole
    → ((order : Order) → slice_get orders place ≡ Some order → found ≡ cycle_at orders order) → found ≡ None → cycle_among orders (drop next orders) ≡ whole
tried_in_vain orders place next whole found after within leads is none =
    ap (λ (own : Option (List Order)). option_or own (cycle_among orders (drop next orders))) (sym none) ∙ next_tried orders place next whole found after within leads is

pub found_first : (orders : List Order) (place : ℕ) (whole found : Option (List Order)) (cycle : List Order) → place < length orders → cycle_among orders (drop place orders) ≡ whole
    → ((order : Order) → slice_get orders place ≡ Some order → found ≡ cycle_at orders order) → found ≡ Some cycle → Some cycle ≡ whole
found_first orders place whole found cycle within leads is some =
    ap (λ (own : Option (List Order)). option_or own (cycle_among orders (drop (place + 1) orders))) (sym some) ∙ next_tried orders place (place + 1) whole found refl within leads is
