-- The orders that are a certain number of further orders away from a goal, and the chains that go through them.
use Rattle.std.proofs.Common.{ℕ, zero, suc, ◌≡◌, ◌+◌, ◌-◌, ◌<◌, refl, ap, sym, ◌∙◌, subst, inl, inr, arith, Bool, true, false, cond, not, List, [], ◌∷◌, ◌++◌, length, reverse}
use Rattle.std.specs.Prelude.{◌&&◌, ◌||◌, if◌then◌else◌, Option, None, Some, Contains, filter, find, is_some, option_and_then, slice_get}
use Rattle.std.specs.List.{list_any}
use Rattle.std.specs.Option.{option_map, option_or}
use Rattle.std.proofs.lemmas.Bool.{and_parts, cases_Bool, cases_order, false≢true}
use Rattle.std.proofs.lemmas.List.{length_push, reverse-append}
use Rattle.gp_base.specs.ListLaws.{contains_found, first_or_rest, here, nothing_in, slice_get_back, there}
use Rattle.gp_cycle.specs.declared.levels.Levels.{Levels}
use Rattle.gp_cycle.specs.declared.order.Order.{Order}
use Rattle.gp_cycle.specs.Cycle.{chain, first_through, leads, shortest}
use Rattle.gp_cycle.specs.Levels.{chain_through, first_levels, is_next, leads_into, with_level}

-- whether a chain of so many further orders leads from an order to a goal
abbrev pub has_chain : List Order → Order → ℕ → Order → Bool
has_chain orders goal count order = is_some (chain orders count order goal)

-- whether no chain of fewer does
abbrev pub is_far : List Order → Order → ℕ → Order → Bool
is_far orders goal zero order = true
is_far orders goal (suc count) order = is_far orders goal count order && not (has_chain orders goal count order)

-- whether the shortest chain has just so many
abbrev pub is_at : List Order → Order → ℕ → Order → Bool
is_at orders goal count order = is_far orders goal count order && has_chain orders goal count order

-- the orders of which the shortest chain has just so many
abbrev pub level : List Order → Order → ℕ → List Order
level orders goal count = filter (is_at orders goal count) orders

-- these for all lesser numbers
abbrev pub levels_to : List Order → Order → ℕ → List (List Order)
levels_to orders goal zero = []
levels_to orders goal (suc count) = levels_to orders goal count ++ level orders goal count ∷ []

abbrev pub levels_at : List Order → Order → ℕ → Levels
levels_at orders goal count = record { goal = goal; levels = levels_to orders goal count; rest = filter (is_far orders goal count) orders }

-- with an order more before it, a chain has one more
goes_on : (orders xs : List Order) (goal : Order) (count : ℕ) (last next : Order) → leads last next ≡ true → Contains xs next → has_chain orders goal count next ≡ true
    → is_some (first_through (λ (o : Order). chain orders count o goal) last xs) ≡ true
goes_on orders [] goal count last next led i has = absurd (nothing_in next i)
goes_on orders (first ∷ xs) goal count last next led i has =
    elim (first_or_rest first xs next i) [
      | inl same ↦
          here_on (leads last first) (chain orders count first goal) (first_through (λ (o : Order). chain orders count o goal) last xs)
          (ap (leads last) same ∙ led) (ap (has_chain orders goal count) same ∙ has)
      | inr more ↦
          later (if leads last first then option_map (λ rest. first ∷ rest) (chain orders count first goal) else None)
          (first_through (λ (o : Order). chain orders count o goal) last xs) (goes_on orders xs goal count last next led more has)
    ]
  where
    here_on : (b : Bool) (own rest : Option (List Order)) → b ≡ true → is_some own ≡ true
        → is_some (option_or (if b then option_map (λ list. first ∷ list) own else None) rest) ≡ true
    here_on true (Some list) rest led has = refl
    here_on true None rest led has = absurd (false≢true has)
    here_on false own rest led has = absurd (false≢true led)

    later : (own rest : Option (List Order)) → is_some rest ≡ true → is_some (option_or own rest) ≡ true
    later (Some list) rest has = refl
    later None rest has = has

pub reaches : (orders : List Order) (goal : Order) (count : ℕ) (last next : Order) → leads last next ≡ true → Contains orders next → has_chain orders goal count next ≡ true
    → has_chain orders goal (suc count) last ≡ true
reaches orders goal count last next led i has = goes_on orders orders goal count last next led i has

-- what is far has no shorter chain, and the other way round
not_true : (b : Bool) → not b ≡ true → b ≡ false
not_true true e = absurd (false≢true e)
not_true false e = refl

pub far_none : (orders : List Order) (goal : Order) (count fewer : ℕ) (order : Order) → is_far orders goal count order ≡ true → fewer < count → has_chain orders goal fewer order ≡ false
far_none orders goal zero fewer order far less = absurd (omega (arith, less))
far_none orders goal (suc count) fewer order far less =
    let parts = and_parts (is_far orders goal count order) (not (has_chain orders goal count order)) far in
    elim (cases_order fewer count) [
      | inl same ↦ subst (λ n. has_chain orders goal n order ≡ false) (sym same) (not_true (has_chain orders goal count order) parts.1)
      | inr (inl below) ↦ far_none orders goal count fewer order parts.0 below
      | inr (inr above) ↦ absurd (omega (arith, less, above))
    ]

pub far_from : (orders : List Order) (goal : Order) (count : ℕ) (order : Order) → ((fewer : ℕ) → fewer < count → has_chain orders goal fewer order ≡ false) → is_far orders goal count order ≡ true
far_from orders goal zero order none = refl
far_from orders goal (suc count) order none =
    ap (λ (b : Bool). b && not (has_chain orders goal count order)) (far_from orders goal count order (λ fewer less. none fewer (omega (arith, less))))
    ∙ ap not (none count (omega arith))

-- what an order that is far leads to is far by one less
far_next : (orders : List Order) (goal : Order) (count : ℕ) (last next : Order) → is_far orders goal (suc count) last ≡ true → leads last next ≡ true → Contains orders next
    → is_far orders goal count next ≡ true
far_next orders goal count last next far led i = far_from orders goal count next (λ fewer less.
    elim (cases_Bool (has_chain orders goal fewer next)) [
      | inl has ↦
          absurd (false≢true (sym (far_none orders goal (suc count) (suc fewer) last far (omega (arith, less)))
          ∙ reaches orders goal fewer last next led i has))
      | inr none ↦ none
    ])

-- the chain through the next order, where there is one
abbrev through : List Order → Order → ℕ → Option Order → Option (List Order)
through orders goal count found = option_and_then (λ next. option_map (λ rest. next ∷ rest) (chain orders count next goal)) found

-- an order that is not led to, that is led to without a chain, and that is led to with one
through_at : (orders xs : List Order) (goal : Order) (count : ℕ) (last next : Order) (led : Bool) (own : Option (List Order)) (far : Bool)
    → leads last next ≡ led → chain orders count next goal ≡ own → is_far orders goal count next ≡ far → (led ≡ true → far ≡ true)
    → first_through (λ (o : Order). chain orders count o goal) last xs ≡ through orders goal count (find (leads last) (filter (is_at orders goal count) xs))
    → option_or (if led then option_map (λ rest. next ∷ rest) own else None) (first_through (λ (o : Order). chain orders count o goal) last xs)
    ≡ through orders goal count (find (leads last) (cond (far && is_some own) (next ∷ filter (is_at orders goal count) xs) (filter (is_at orders goal count) xs)))
through_at orders xs goal count last next false own far is own_is far_is implies rest = rest ∙ past (far && is_some own)
  where
    past : (b : Bool) → through orders goal count (find (leads last) (filter (is_at orders goal count) xs))
        ≡ through orders goal count (find (leads last) (cond b (next ∷ filter (is_at orders goal count) xs) (filter (is_at orders goal count) xs)))
    past true =
        ap (λ (b : Bool). through orders goal count (cond b (Some next) (find (leads last) (filter (is_at orders goal count) xs)))) (sym is)
    past false = refl
through_at orders xs goal count last next true None far is own_is far_is implies rest =
    rest ∙ ap (λ (b : Bool). through orders goal count (find (leads last) (cond b (next ∷ filter (is_at orders goal count) xs) (filter (is_at orders goal count) xs)))) (sym (neither far))
  where
    neither : (b : Bool) → (b && false) ≡ false
    neither true = refl
    neither false = refl
through_at orders xs goal count last next true (Some own) false is own_is far_is implies rest = absurd (false≢true (implies refl))
through_at orders xs goal count last next true (Some own) true is own_is far_is implies rest =
    sym (ap (λ (b : Bool). through orders goal count (cond b (Some next) (find (leads last) (filter (is_at orders goal count) xs)))) is
    ∙ ap (option_map (λ rest. next ∷ rest)) own_is)

through_each : (orders xs : List Order) (goal : Order) (count : ℕ) (last : Order) → is_far orders goal (suc count) last ≡ true → ((o : Order) → Contains xs o → Contains orders o)
    → first_through (λ (o : Order). chain orders count o goal) last xs ≡ through orders goal count (find (leads last) (filter (is_at orders goal count) xs))
through_each orders [] goal count last far among = refl
through_each orders (next ∷ xs) goal count last far among =
    through_at orders xs goal count last next (leads last next) (chain orders count next goal) (is_far orders goal count next) refl refl refl
    (λ led. far_next orders goal count last next far led (among next (here next xs)))
    (through_each orders xs goal count last far (λ o i. among o (there next xs o i)))

-- the chain of an order that is far goes on through the first of the next level to which the order leads
pub chain_next : (orders : List Order) (goal : Order) (count : ℕ) (last : Order) → is_far orders goal (suc count) last ≡ true
    → chain orders (suc count) last goal ≡ through orders goal count (find (leads last) (level orders goal count))
chain_next orders goal count last far = through_each orders orders goal count last far (λ o i. i)

-- an order that is far has a chain of just so many where it leads to one of the level before
some_found : {X : Type 0} (test : X → Bool) (xs : List X) → is_some (find test xs) ≡ list_any test xs
some_found test [] = refl
some_found {X} test (x ∷ xs) = at (test x) (some_found test xs)
  where
    at : (b : Bool) → is_some (find test xs) ≡ list_any test xs → is_some (cond {A = Option X} b (Some x) (find test xs)) ≡ (b || list_any test xs)
    at true rest = refl
    at false rest = rest

contains_from_filter : {X : Type 0} (test : X → Bool) (xs : List X) (x : X) → Contains (filter test xs) x → Contains xs x × (test x ≡ true)
contains_from_filter test [] x i = absurd (nothing_in x i)
contains_from_filter {X} test (first ∷ xs) x i = at (test first) refl i (contains_from_filter test xs x)
  where
    at : (b : Bool) → test first ≡ b → Contains (cond {A = List X} b (first ∷ filter test xs) (filter test xs)) x → (Contains (filter test xs) x → Contains xs x × (test x ≡ true))
        → Contains (first ∷ xs) x × (test x ≡ true)
    at true passes j rest = elim (first_or_rest first (filter test xs) x j) [
      | inl same ↦ (subst (Contains (first ∷ xs)) same (here first xs), ap test (sym same) ∙ passes)
      | inr more ↦ (there first xs x (rest more).0, (rest more).1)
    ]
    at false fails j rest = (there first xs x (rest j).0, (rest j).1)

pub in_level : (orders : List Order) (goal : Order) (count : ℕ) (next : Order) → Contains (level orders goal count) next
    → Contains orders next × (is_far orders goal count next ≡ true) × (has_chain orders goal count next ≡ true)
in_level orders goal count next i =
    let parts = contains_from_filter (is_at orders goal count) orders next i in
    let both = and_parts (is_far orders goal count next) (has_chain orders goal count next) parts.1 in
    (parts.0, both.0, both.1)

some_through : (orders : List Order) (goal : Order) (count : ℕ) (last : Order) (found : Option Order) → find (leads last) (level orders goal count) ≡ found
    → is_some (through orders goal count found) ≡ is_some found
some_through orders goal count last None is = refl
some_through orders goal count last (Some next) is =
    mapped (chain orders count next goal) (in_level orders goal count next (contains_found (leads last) (level orders goal count) next is).0).2
  where
    mapped : (own : Option (List Order)) → is_some own ≡ true → is_some (option_map (λ rest. next ∷ rest) own) ≡ true
    mapped (Some list) has = refl
    mapped None has = absurd (false≢true has)

pub has_next : (orders : List Order) (goal : Order) (count : ℕ) (last : Order) → is_far orders goal (suc count) last ≡ true
    → has_chain orders goal (suc count) last ≡ list_any (leads last) (level orders goal count)
has_next orders goal count last far =
    ap is_some (chain_next orders goal count last far)
    ∙ some_through orders goal count last (find (leads last) (level orders goal count)) refl
    ∙ some_found (leads last) (level orders goal count)

-- the last of some lists that was put behind others
pub last_put : {X : Type 0} (xs : List X) (x : X) → slice_get (xs ++ x ∷ []) (length (xs ++ x ∷ []) - 1) ≡ Some x
last_put xs x =
    let end : length (xs ++ x ∷ []) - 1 ≡ length xs + 0 = omega (arith, length_push xs x) in
    ap (slice_get (xs ++ x ∷ [])) end ∙ slice_get_back xs (x ∷ []) 0

next_is : (orders : List Order) (goal : Order) (count : ℕ) (order : Order) → is_far orders goal count order ≡ true
    → is_next (levels_at orders goal count) order ≡ has_chain orders goal count order
next_is orders goal zero order far = at (leads order goal)
  where
    at : (b : Bool) → b ≡ is_some (let found : Option (List Order) = if b then Some [] else None in found)
    at true = refl
    at false = refl
next_is orders goal (suc count) order far =
    ap (λ (found : Option (List Order)). leads_into goal found order) (last_put (levels_to orders goal count) (level orders goal count))
    ∙ sym (has_next orders goal count order far)

filter_twice : {X : Type 0} (first second third : X → Bool) (xs : List X) → ((x : X) → first x ≡ true → second x ≡ third x)
    → filter second (filter first xs) ≡ filter (λ x. first x && third x) xs
filter_twice first second third [] same = refl
filter_twice {X} first second third (x ∷ xs) same = at (first x) refl (filter_twice first second third xs same)
  where
    at : (b : Bool) → first x ≡ b → filter second (filter first xs) ≡ filter (λ y. first y && third y) xs
        → filter second (cond {A = List X} b (x ∷ filter first xs) (filter first xs))
        ≡ cond {A = List X} (b && third x) (x ∷ filter (λ y. first y && third y) xs) (filter (λ y. first y && third y) xs)
    at true passes rest =
        ap (λ (b : Bool). cond {A = List X} b (x ∷ filter second (filter first xs)) (filter second (filter first xs))) (same x passes)
        ∙ ap (λ (list : List X). cond {A = List X} (third x) (x ∷ list) list) rest
    at false fails rest = rest

-- one level more
pub level_more : (orders : List Order) (goal : Order) (count : ℕ) → with_level (levels_at orders goal count) ≡ levels_at orders goal (suc count)
level_more orders goal count = λ i. record { goal = goal; levels = levels_to orders goal count ++ near i ∷ []; rest = rest i }
  where
    near : filter (is_next (levels_at orders goal count)) (filter (is_far orders goal count) orders) ≡ level orders goal count
    near = filter_twice (is_far orders goal count) (is_next (levels_at orders goal count)) (has_chain orders goal count) orders (next_is orders goal count)

    rest : filter (λ (order : Order). not (is_next (levels_at orders goal count) order)) (filter (is_far orders goal count) orders) ≡ filter (is_far orders goal (suc count)) orders
    rest =
        filter_twice (is_far orders goal count) (λ (order : Order). not (is_next (levels_at orders goal count) order)) (λ (order : Order). not (has_chain orders goal count order)) orders
        (λ order far. ap not (next_is orders goal count order far))

pub filter_whole : {X : Type 0} (xs : List X) → filter (λ x. true) xs ≡ xs
filter_whole [] = refl
filter_whole {X} (x ∷ xs) = ap (λ (list : List X). x ∷ list) (filter_whole xs)

pub level_none : (orders : List Order) (goal : Order) → first_levels orders goal ≡ levels_at orders goal 0
level_none orders goal = λ i. record { goal = goal; levels = []; rest = sym (filter_whole orders) i }

-- the chain through the levels is the first one
reverse_put : {X : Type 0} (xs : List X) (x : X) → reverse (xs ++ x ∷ []) ≡ x ∷ reverse xs
reverse_put xs x = reverse-append xs (x ∷ [])

pub chain_is : (orders : List Order) (goal : Order) (count : ℕ) (last : Order) → is_far orders goal count last ≡ true
    → chain_through goal (reverse (levels_to orders goal count)) last ≡ chain orders count last goal
chain_is orders goal zero last far = refl
chain_is orders goal (suc count) last far =
    ap (λ (levels : List (List Order)). chain_through goal levels last) (reverse_put (levels_to orders goal count) (level orders goal count))
    ∙ at (find (leads last) (level orders goal count)) refl (chain_is orders goal count)
    ∙ sym (chain_next orders goal count last far)
  where
    at : (found : Option Order) → find (leads last) (level orders goal count) ≡ found
        → ((next : Order) → is_far orders goal count next ≡ true → chain_through goal (reverse (levels_to orders goal count)) next ≡ chain orders count next goal)
        → option_and_then (λ next. option_map (λ rest. next ∷ rest) (chain_through goal (reverse (levels_to orders goal count)) next)) found ≡ through orders goal count found
    at None is rest = refl
    at (Some next) is rest =
        ap (option_map (λ list. next ∷ list))
        (rest next (in_level orders goal count next (contains_found (leads last) (level orders goal count) next is).0).1)

-- an order without a chain of so many is far by one more
pub farther : (orders : List Order) (goal : Order) (count : ℕ) (last : Order) → is_far orders goal count last ≡ true → chain orders count last goal ≡ None
    → is_far orders goal (suc count) last ≡ true
farther orders goal count last far none =
    ap (λ (b : Bool). b && not (has_chain orders goal count last)) far ∙ ap (λ (own : Option (List Order)). not (is_some own)) none

-- behind an empty level there is none
no_next : (orders : List Order) (goal : Order) (count : ℕ) (last : Order) → level orders goal count ≡ [] → is_far orders goal (suc count) last ≡ true
    → chain orders (suc count) last goal ≡ None
no_next orders goal count last empty far =
    chain_next orders goal count last far ∙ ap (λ (list : List Order). through orders goal count (find (leads last) list)) empty

filter_none : {X : Type 0} (test : X → Bool) (xs : List X) → ((x : X) → test x ≡ false) → filter test xs ≡ []
filter_none test [] fails = refl
filter_none {X} test (x ∷ xs) fails =
    ap (λ (b : Bool). cond {A = List X} b (x ∷ filter test xs) (filter test xs)) (fails x) ∙ filter_none test xs fails

empty_next : (orders : List Order) (goal : Order) (count : ℕ) → level orders goal count ≡ [] → level orders goal (suc count) ≡ []
empty_next orders goal count empty = filter_none (is_at orders goal (suc count)) orders (λ order. at order (is_far orders goal (suc count) order) refl)
  where
    at : (order : Order) (far : Bool) → is_far orders goal (suc count) order ≡ far → (far && has_chain orders goal (suc count) order) ≡ false
    at order true is = ap is_some (no_next orders goal count order empty is)
    at order false is = refl

pub none_left : (more count : ℕ) (orders : List Order) (goal last : Order) → level orders goal count ≡ [] → is_far orders goal (suc count) last ≡ true
    → shortest orders more (suc count) last goal ≡ None
none_left zero count orders goal last empty far = refl
none_left (suc more) count orders goal last empty far =
    let none = no_next orders goal count last empty far in
    ap (λ (own : Option (List Order)). option_or own (shortest orders more (suc (suc count)) last goal)) none
    ∙ none_left more (suc count) orders goal last (empty_next orders goal count empty) (farther orders goal (suc count) last far none)
