-- The schedule matches an instance.
use Rattle.std.proofs.Common.{ℕ, ◌≡◌, ◌⊎◌, ◌<◌, sym, ◌∙◌, refl, subst, inl, inr, List, [], ◌∷◌, Bool, true, false, arith, ◌+◌, length, drop}
use Rattle.std.specs.Prelude.{◌&&◌, Some, nat_lt, Contains}
use Rattle.std.specs.List.{AllByRecursion, list_all, position_or_len}
use Rattle.std.proofs.lemmas.Bool.{and_from, cases_Bool, false≢true, lt-ltb}
use Rattle.gp_window.specs.declared.schedule.EventId.{EventId}
use Rattle.gp_window.specs.IdLaws.{contains_means, same_id, same_itself}
use Rattle.gp_window.specs.Ids.{contains_event, is_same}
use Rattle.gp_property.specs.declared.property.PatternStep.{PatternStep}
use Rattle.gp_property.specs.PropertyForm.{PropertyForm}
use Rattle.gp_instance.specs.Matches.{all_before, begins_with_group, follow, groups_of, is_before, is_before_all, matches_events, place_of, stands_together}
use Rattle.gp_base.specs.ListLaws.{contains_from_drop, contains_from_take, first_or_rest, here, nothing_in, recursion_at, there}
use Rattle.gp_witness.specs.Meaning.{Truth}
use Rattle.gp_witness.proofs.Group.{IsGroup}
use Rattle.gp_witness.proofs.Sorted.{Before, Does, IsScheduleOf, IsSorted, MayPrecede, not_itself}
use Rattle.gp_witness.proofs.Together.{groups_together}

-- each event of a step stands before each of the next, and these, of the step before, before the first
abbrev pub StepsStand : Truth → List EventId → List (List EventId) → Type 0
StepsStand t before [] = Unit {0}
StepsStand t before (group ∷ groups) =
    ((one other : EventId) → Contains before one → Contains group other → Before t one other) × StepsStand t group groups

-- the step has one event, or is a group
abbrev pub IsStep : Truth → List EventId → Type 0
IsStep t group = ((id : EventId) × (group ≡ id ∷ [])) ⊎ IsGroup t group

-- an instance stands in the schedule: its events are executed, its steps follow one another, and its groups are groups
pub record InstanceStands (t : Truth) (property : PropertyForm) (events : List EventId) : Type 0 where
  pub does : (id : EventId) → Contains events id → Does t id
  pub follow : StepsStand t [] (groups_of property.pattern events)
  pub steps : AllByRecursion (IsStep t) (groups_of property.pattern events)

-- the first place of an event; how many events there are, where it is not there
abbrev first_place : List EventId → EventId → ℕ
first_place ids id = position_or_len (λ other. is_same other id) ids

at_first_place : (x id : EventId) (ids : List EventId) → is_same x id ≡ true → first_place (x ∷ ids) id ≡ 0
at_first_place x id ids e = rw e refl

after_first_place : (x id : EventId) (ids : List EventId) → is_same x id ≡ false → first_place (x ∷ ids) id ≡ 1 + first_place ids id
after_first_place x id ids e = rw e refl

-- what is not the first is later
later_in_ids : (x id : EventId) (ids : List EventId) → is_same x id ≡ false → Contains (x ∷ ids) id → Contains ids id
later_in_ids x id ids e i =
    elim (first_or_rest _ _ _ i) [
      | inl same ↦ absurd (false≢true (sym e ∙ subst (λ o. is_same x o ≡ true) same (same_itself x)))
      | inr i ↦ i
    ]

within : (ids : List EventId) (id : EventId) → Contains ids id → first_place ids id < length ids
within [] id i = absurd (nothing_in _ i)
within (x ∷ ids) id i =
    elim (cases_Bool (is_same x id)) [
      | inl same ↦ let here = at_first_place x id ids same in omega (arith, here)
      | inr differ ↦
          let there = after_first_place x id ids differ in
          let rest = within ids id (later_in_ids x id ids differ i) in
          omega (arith, there, rest)
    ]

in_order : (t : Truth) (ids : List EventId) (one other : EventId) → IsSorted t ids → Contains ids one → Contains ids other → Before t one other
    → first_place ids one < first_place ids other
in_order t [] one other sorted i j before = absurd (nothing_in _ i)
in_order t (x ∷ ids) one other sorted i j before =
    elim (cases_Bool (is_same x one)) [
      | inl first ↦ elim (cases_Bool (is_same x other)) [
        | inl second ↦
            let same : other ≡ one = sym (same_id x other second) ∙ same_id x one first in
            absurd (not_itself t one (subst (λ o. Before t one o) same before))
        | inr differ ↦
            let here = at_first_place x one ids first in
            let there = after_first_place x other ids differ in
            omega (arith, here, there)
      ]
      | inr apart ↦
          let late = later_in_ids x one ids apart i in
          elim (cases_Bool (is_same x other)) [
            | inl second ↦
                let precedes = recursion_at (MayPrecede t x) ids one sorted.0 late in
                absurd (precedes.1 (subst (λ o. Before t one o) (sym (same_id x other second)) before))
            | inr differ ↦
                let here = after_first_place x one ids apart in
                let there = after_first_place x other ids differ in
                let rest = in_order t ids one other sorted.1 late (later_in_ids x other ids differ j) before in
                omega (arith, here, there, rest)
          ]
    ]

has_place : (ids : List EventId) (id : EventId) → Contains ids id → place_of ids id ≡ Some (first_place ids id)
has_place ids id i =
    let below : nat_lt (first_place ids id) (length ids) ≡ true = lt-ltb (first_place ids id) (length ids) (within ids id i) in
    rw below refl

-- what stands before in the t stands before in the schedule
stands_before : (t : Truth) (ids : List EventId) (one other : EventId) → IsSorted t ids → Contains ids one → Contains ids other → Before t one other
    → is_before (place_of ids one) (place_of ids other) ≡ true
stands_before t ids one other sorted i j before =
    let less : nat_lt (first_place ids one) (first_place ids other) ≡ true =
    lt-ltb (first_place ids one) (first_place ids other) (in_order t ids one other sorted i j before) in
    rw (has_place ids one i, has_place ids other j) less

all_true : (p : EventId → Bool) (ids : List EventId) → ((id : EventId) → Contains ids id → p id ≡ true) → list_all p ids ≡ true
all_true p [] h = refl
all_true p (id ∷ ids) h = let first = h id (here _ _) in let rest = all_true p ids (λ other i. h other (there _ _ _ i)) in rw first rest

step_before : (t : Truth) (ids earlier later : List EventId) → IsSorted t ids
    → ((id : EventId) → Contains earlier id → Contains ids id) → ((id : EventId) → Contains later id → Contains ids id)
    → ((one other : EventId) → Contains earlier one → Contains later other → Before t one other) → all_before ids earlier later ≡ true
step_before t ids earlier later sorted first second before =
    all_true (λ one. is_before_all ids one later) earlier (λ one i.
    all_true (λ other. is_before (place_of ids one) (place_of ids other)) later (λ other j.
    stands_before t ids one other sorted (first one i) (second other j) (before one other i j)))

steps_follow : (t : Truth) (ids before : List EventId) (groups : List (List EventId)) → IsSorted t ids → ((id : EventId) → Contains before id → Contains ids id)
    → AllByRecursion (λ group. (id : EventId) → Contains group id → Contains ids id) groups → StepsStand t before groups → follow ids before groups ≡ true
steps_follow t ids before [] sorted first inside steps = refl
steps_follow t ids before (group ∷ groups) sorted first inside steps =
    and_from (all_before ids before group) (follow ids group groups) (step_before t ids before group sorted first inside.0 steps.0)
    (steps_follow t ids group groups sorted inside.0 inside.1 steps.1)

-- one event stands together
single_together : (id : EventId) (ids : List EventId) → Contains ids id → stands_together (id ∷ []) ids ≡ true
single_together id [] i = absurd (nothing_in _ i)
single_together id (x ∷ ids) i =
    elim (cases_Bool (begins_with_group (id ∷ []) (x ∷ ids))) [
      | inl begun ↦ rw begun refl
      | inr not ↦ elim (first_or_rest _ _ _ i) [
        | inl same ↦
            let itself : is_same id x ≡ true = subst (λ o. is_same o x ≡ true) same (same_itself x) in
            let among : contains_event (id ∷ []) x ≡ true = (contains_means (id ∷ []) x).1 (0, omega arith, sym same) in
            let begun : begins_with_group (id ∷ []) (x ∷ ids) ≡ true = rw itself refl in
            absurd (false≢true (sym not ∙ begun))
        | inr later ↦ rw not (single_together id ids later)
      ]
    ]

step_together : (t : Truth) (ids group : List EventId) → IsScheduleOf t ids → ((id : EventId) → Contains group id → Contains ids id) → IsStep t group
    → stands_together group ids ≡ true
step_together t ids group s inside (inr g) = groups_together t ids group s g
step_together t ids group s inside (inl single) =
    let i : Contains ids single.0 = inside single.0 (subst (λ xs. Contains xs single.0) (sym single.1) (here _ [])) in
    subst (λ (g : List EventId). stands_together g ids ≡ true) (sym single.1) (single_together single.0 ids i)

all_together : (t : Truth) (ids : List EventId) (groups : List (List EventId)) → IsScheduleOf t ids
    → AllByRecursion (λ group. (id : EventId) → Contains group id → Contains ids id) groups → AllByRecursion (IsStep t) groups
    → list_all (λ group. stands_together group ids) groups ≡ true
all_together t ids [] s inside steps = refl
all_together t ids (group ∷ groups) s inside steps =
    and_from (stands_together group ids) (list_all (λ g. stands_together g ids) groups) (step_together t ids group s inside.0 steps.0)
    (all_together t ids groups s inside.1 steps.1)

-- the events of the steps are those of the instance
pub in_groups : (ids events : List EventId) (pattern : List PatternStep) → ((id : EventId) → Contains events id → Contains ids id)
    → AllByRecursion (λ group. (id : EventId) → Contains group id → Contains ids id) (groups_of pattern events)
in_groups ids events [] there = tt
in_groups ids events (step ∷ steps) there = (
  (λ id i. there id (contains_from_take (length step.atoms) events id i)),
  in_groups ids (drop (length step.atoms) events) steps (λ id i. there id (contains_from_drop (length step.atoms) events id i)),
)

pub schedule_matches : (t : Truth) (ids : List EventId) (property : PropertyForm) (events : List EventId)
    → IsScheduleOf t ids → InstanceStands t property events → matches_events property events ids ≡ true
schedule_matches t ids property events s q =
    let groups : List (List EventId) = groups_of property.pattern events in
    let there : (id : EventId) → Contains events id → Contains ids id = λ id i. s.all id (q.does id i) in
    let inside = in_groups ids events property.pattern there in
    let first = all_true (contains_event ids) events (λ id i. (contains_means ids id).1 (there id i)) in
    let second = steps_follow t ids [] groups s.sorted (λ id none. absurd (nothing_in _ none)) inside q.follow in
    let third = all_together t ids groups s inside q.steps in
    and_from (list_all (contains_event ids) events && follow ids [] groups) (list_all (λ group. stands_together group ids) groups)
    (and_from (list_all (contains_event ids) events) (follow ids [] groups) first second) third
