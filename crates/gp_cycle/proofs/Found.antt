-- A cycle that is told is one, and where none is told there is none.
use Rattle.std.proofs.Common.{ℕ, zero, suc, ◌≡◌, ◌+◌, ◌-◌, ◌<◌, ◌≤◌, refl, ap, sym, ◌∙◌, subst, inl, inr, arith, Bool, true, false, cond, not, List, [], ◌∷◌, length}
use Rattle.std.specs.Prelude.{◌&&◌, if◌then◌else◌, Option, None, Some, Contains, filter, is_some}
use Rattle.std.specs.Option.{option_map, option_or}
use Rattle.std.proofs.lemmas.Bool.{cases_lt, false≢true}
use Rattle.std.proofs.lemmas.List.Elements.{All-contains}
use Rattle.std.proofs.lemmas.Option.{none-some, same_Some}
use Rattle.gp_base.specs.ListLaws.{all_from_contains, first_or_rest, here, nothing_in, there}
use Rattle.gp_cycle.specs.declared.order.Order.{Order}
use Rattle.gp_cycle.specs.Cycle.{chain, cycle_among, cycle_at, cycle_of, first_through, leads, shortest}
use Rattle.gp_cycle.specs.Laws.{IsCycle, LeadsOn}
use Rattle.gp_cycle.proofs.Leveled.{far_from, far_none, filter_whole, has_chain, is_far, level, none_left, reaches}

-- the order by which a chain goes on, and what follows it
pub record GoesOnBy (from : Order → Option (List Order)) (last : Order) (orders found : List Order) : Type 0 where
  pub next : Order
  pub rest : List Order
  pub among : Contains orders next
  pub led : leads last next ≡ true
  pub more : from next ≡ Some rest
  pub whole : next ∷ rest ≡ found

first_some : (from : Order → Option (List Order)) (last : Order) (orders found : List Order) → first_through from last orders ≡ Some found → GoesOnBy from last orders found
first_some from last [] found is = absurd (none-some found is)
first_some from last (next ∷ orders) found is = at (leads last next) (from next) refl refl (λ e. behind (first_some from last orders found e)) is
  where
    behind : GoesOnBy from last orders found → GoesOnBy from last (next ∷ orders) found
    behind more = record {
      next = more.next;
      rest = more.rest;
      among = there next orders more.next more.among;
      led = more.led;
      more = more.more;
      whole = more.whole;
    }

    at : (led : Bool) (own : Option (List Order)) → leads last next ≡ led → from next ≡ own
        → (first_through from last orders ≡ Some found → GoesOnBy from last (next ∷ orders) found)
        → option_or (if led then option_map (λ rest. next ∷ rest) own else None) (first_through from last orders) ≡ Some found → GoesOnBy from last (next ∷ orders) found
    at true (Some rest) led own later e =
        record { next = next; rest = rest; among = here next orders; led = led; more = own; whole = same_Some (next ∷ rest) found e }
    at true None led own later e = later e
    at false own led own_is later e = later e

-- a chain leads from its order to its goal, by some of the orders
abbrev LeadsBy : List Order → Order → List Order → Order → Type 0
LeadsBy orders last found goal = LeadsOn last found goal × ((order : Order) → Contains found order → Contains orders order)

chain_leads : (orders : List Order) (count : ℕ) (last goal : Order) (found : List Order) → chain orders count last goal ≡ Some found → LeadsBy orders last found goal
chain_leads orders zero last goal found is = at (leads last goal) refl is
  where
    at : (led : Bool) → leads last goal ≡ led → ◌≡◌ {A = Option (List Order)} (if led then Some [] else None) (Some found) → LeadsBy orders last found goal
    at true led e = subst (λ (list : List Order). LeadsBy orders last list goal) (same_Some [] found e) (led, λ order i. absurd (nothing_in order i))
    at false led e = absurd (none-some found e)
chain_leads orders (suc count) last goal found is =
    let by = first_some (λ (next : Order). chain orders count next goal) last orders found is in
    let rest = chain_leads orders count by.next goal by.rest by.more in
    subst (λ (list : List Order). LeadsBy orders last list goal) by.whole (
      (by.led, rest.0),
      λ order i. elim (first_or_rest by.next by.rest order i) [
        | inl same ↦ subst (Contains orders) same by.among
        | inr more ↦ rest.1 order more
      ],
    )

shortest_is : (orders : List Order) (more count : ℕ) (last goal : Order) (found : List Order) → shortest orders more count last goal ≡ Some found
    → (n : ℕ) × (chain orders n last goal ≡ Some found)
shortest_is orders zero count last goal found is = absurd (none-some found is)
shortest_is orders (suc more) count last goal found is = at (chain orders count last goal) refl (shortest_is orders more (suc count) last goal found) is
  where
    at : (own : Option (List Order)) → chain orders count last goal ≡ own
        → (shortest orders more (suc count) last goal ≡ Some found → (n : ℕ) × (chain orders n last goal ≡ Some found))
        → option_or own (shortest orders more (suc count) last goal) ≡ Some found → (n : ℕ) × (chain orders n last goal ≡ Some found)
    at (Some list) own later e = (count, own ∙ e)
    at None own later e = later e

-- the cycle through an order is one
pub cycle_from : (orders : List Order) (order : Order) (rest : List Order) → Contains orders order → shortest orders (length orders) 0 order order ≡ Some rest → IsCycle orders (order ∷ rest)
cycle_from orders order rest among is =
    let found = shortest_is orders (length orders) 0 order order rest is in
    let leads_by = chain_leads orders found.0 order order rest found.1 in (
      all_from_contains (Contains orders) (order ∷ rest) (λ o i. elim (first_or_rest order rest o i) [
        | inl same ↦ subst (Contains orders) same among
        | inr more ↦ leads_by.1 o more
      ]),
      leads_by.0,
    )

cycle_in : (orders xs cycle : List Order) → ((order : Order) → Contains xs order → Contains orders order) → cycle_among orders xs ≡ Some cycle → IsCycle orders cycle
cycle_in orders [] cycle among is = absurd (none-some cycle is)
cycle_in orders (order ∷ xs) cycle among is = at (shortest orders (length orders) 0 order order) refl (cycle_in orders xs cycle (λ o i. among o (there order xs o i))) is
  where
    at : (own : Option (List Order)) → shortest orders (length orders) 0 order order ≡ own → (cycle_among orders xs ≡ Some cycle → IsCycle orders cycle)
        → option_or (option_map (λ rest. order ∷ rest) own) (cycle_among orders xs) ≡ Some cycle → IsCycle orders cycle
    at None own later e = later e
    at (Some rest) own later e = subst (IsCycle orders) (same_Some (order ∷ rest) cycle e) (cycle_from orders order rest (among order (here order xs)) own)

pub told_cycle : (orders cycle : List Order) → cycle_of orders ≡ Some cycle → IsCycle orders cycle
told_cycle orders cycle is = cycle_in orders orders cycle (λ order i. i) is

-- where no cycle is told, no chain below the number of orders was found
neither : {X : Type 0} (own rest : Option X) → option_or own rest ≡ None → (own ≡ None) × (rest ≡ None)
neither (Some x) rest e = absurd (none-some x (sym e))
neither None rest e = (refl, e)

not_mapped : {X Y : Type 0} (f : X → Y) (own : Option X) → option_map f own ≡ None → own ≡ None
not_mapped f (Some x) e = absurd (none-some (f x) (sym e))
not_mapped f None e = refl

none_tried : (orders : List Order) (more count n : ℕ) (last goal : Order) → shortest orders more count last goal ≡ None → count ≤ n → n < count + more → chain orders n last goal ≡ None
none_tried orders zero count n last goal is above below = absurd (omega (arith, above, below))
none_tried orders (suc more) count n last goal is above below =
    let parts = neither (chain orders count last goal) (shortest orders more (suc count) last goal) is in
    elim (cases_lt count n) [
      | inl later ↦ none_tried orders more (suc count) n last goal parts.1 (omega (arith, later)) (omega (arith, below))
      | inr first ↦ let same : count ≡ n = omega (arith, above, first) in subst (λ k. chain orders k last goal ≡ None) same parts.0
    ]

no_cycle_at : (orders xs : List Order) (order : Order) → cycle_among orders xs ≡ None → Contains xs order → shortest orders (length orders) 0 order order ≡ None
no_cycle_at orders [] order is i = absurd (nothing_in order i)
no_cycle_at orders (first ∷ xs) order is i =
    let parts = neither (cycle_at orders first) (cycle_among orders xs) is in
    elim (first_or_rest first xs order i) [
      | inl same ↦
          subst (λ (o : Order). shortest orders (length orders) 0 o o ≡ None) same
          (not_mapped (λ (rest : List Order). first ∷ rest) (shortest orders (length orders) 0 first first) parts.0)
      | inr more ↦ no_cycle_at orders xs order parts.1 more
    ]

-- orders that lead on are a chain of as many
leads_has : (orders rest : List Order) (last goal : Order) → ((order : Order) → Contains rest order → Contains orders order) → LeadsOn last rest goal
    → has_chain orders goal (length rest) last ≡ true
leads_has orders [] last goal among led = ap (λ (b : Bool). is_some (let found : Option (List Order) = if b then Some [] else None in found)) led
leads_has orders (next ∷ rest) last goal among led =
    reaches orders goal (length rest) last next led.0 (among next (here next rest))
    (leads_has orders rest next goal (λ order i. among order (there next rest order i)) led.1)

far_less : (orders : List Order) (goal : Order) (count fewer : ℕ) (order : Order) → is_far orders goal count order ≡ true → fewer ≤ count → is_far orders goal fewer order ≡ true
far_less orders goal count fewer order far less =
    far_from orders goal fewer order (λ n below. far_none orders goal count n order far (omega (arith, less, below)))

-- no level below the number of orders is empty where an order has a chain, and none of fewer
not_empty : (orders : List Order) (goal order : Order) (count n place : ℕ) → is_far orders goal count order ≡ true → has_chain orders goal n order ≡ true → place < count
    → level orders goal place ≡ [] → ⊥
not_empty orders goal order count n place far has below empty =
    elim (cases_lt place n) [
      | inl later ↦
          false≢true (sym (ap is_some
          (none_tried orders (n - place) (suc place) n order goal
          (none_left (n - place) place orders goal order empty (far_less orders goal count (suc place) order far (omega (arith, below)))) (omega (arith, later)) (omega (arith, later)))) ∙ has)
      | inr early ↦ false≢true (sym (far_none orders goal count n order far (omega (arith, early, below))) ∙ has)
    ]

both_parts : {X : Type 0} (first second : X → Bool) (xs : List X)
    → length (filter first xs) ≡ length (filter (λ x. first x && second x) xs) + length (filter (λ x. first x && not (second x)) xs)
both_parts first second [] = refl
both_parts {X} first second (x ∷ xs) = at (first x) (second x) (both_parts first second xs)
  where
    firsts : List X
    firsts = filter first xs

    ones : List X
    ones = filter (λ y. first y && second y) xs

    others : List X
    others = filter (λ y. first y && not (second y)) xs

    at : (a b : Bool) → length firsts ≡ length ones + length others
        → length (cond {A = List X} a (x ∷ firsts) firsts) ≡ length (cond {A = List X} (a && b) (x ∷ ones) ones) + length (cond {A = List X} (a && not b) (x ∷ others) others)
    at true true rest = omega (arith, rest)
    at true false rest = omega (arith, rest)
    at false b rest = rest

some_length : {X : Type 0} (xs : List X) → (xs ≡ [] → ⊥) → 1 ≤ length xs
some_length [] some = absurd (some refl)
some_length (x ∷ xs) some = omega arith

far_count : (orders : List Order) (goal order : Order) (n count : ℕ) → is_far orders goal (length orders) order ≡ true → has_chain orders goal n order ≡ true → count ≤ length orders
    → length (filter (is_far orders goal count) orders) + count ≤ length orders
far_count orders goal order n zero far has below = let whole : length (filter (λ (o : Order). true) orders) ≡ length orders = ap length (filter_whole orders) in omega (arith, whole)
far_count orders goal order n (suc count) far has below =
    let before = far_count orders goal order n count far has (omega (arith, below)) in
    let parts = both_parts (is_far orders goal count) (has_chain orders goal count) orders in
    let some = some_length (level orders goal count) (not_empty orders goal order (length orders) n count far has (omega (arith, below))) in
    omega (arith, before, parts, some)

filter_keeps : {X : Type 0} (test : X → Bool) (xs : List X) (x : X) → Contains xs x → test x ≡ true → Contains (filter test xs) x
filter_keeps test [] x i passes = absurd (nothing_in x i)
filter_keeps {X} test (first ∷ xs) x i passes = at (test first) refl (λ more. filter_keeps test xs x more passes)
  where
    at : (b : Bool) → test first ≡ b → (Contains xs x → Contains (filter test xs) x) → Contains (cond {A = List X} b (first ∷ filter test xs) (filter test xs)) x
    at true own rest = elim (first_or_rest first xs x i) [
      | inl same ↦ subst (Contains (first ∷ filter test xs)) same (here first (filter test xs))
      | inr more ↦ there first (filter test xs) x (rest more)
    ]
    at false fails rest = elim (first_or_rest first xs x i) [
      | inl same ↦ absurd (false≢true (sym fails ∙ ap test same ∙ passes))
      | inr more ↦ rest more
    ]

pub none_round : (orders cycle : List Order) → cycle_of orders ≡ None → IsCycle orders cycle → ⊥
none_round orders [] is round = round
none_round orders (order ∷ rest) is round =
    let within = filter_keeps (is_far orders order (length orders)) orders order among far in
    let few = far_count orders order order (length rest) (length orders) far has (omega arith) in
    omega (arith, within.1, few)
  where
    among : Contains orders order
    among = All-contains (Contains orders) (order ∷ rest) order round.0 (here order rest)

    has : has_chain orders order (length rest) order ≡ true
    has = leads_has orders rest order order (λ o i. All-contains (Contains orders) (order ∷ rest) o round.0 (there order rest o i)) round.1

    far : is_far orders order (length orders) order ≡ true
    far =
        far_from orders order (length orders) order (λ fewer less.
        ap is_some (none_tried orders (length orders) 0 fewer order order (no_cycle_at orders orders order is among) (omega arith) (omega (arith, less))))
