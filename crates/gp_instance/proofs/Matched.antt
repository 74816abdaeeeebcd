-- A schedule matches the events of an instance exactly where they stand in it as the pattern says.
use Rattle.std.proofs.Common.{◌≡◌, ◌≢◌, refl, ap, ◌∙◌, sym, subst, ℕ, zero, suc, ◌<◌, inl, inr, Bool, true, false, cond, List, [], ◌∷◌, arith}
use Rattle.std.specs.Prelude.{◌&&◌, ◌||◌, Contains, Option, Some, None, slice_get}
use Rattle.std.specs.List.{list_all}
use Rattle.std.specs.Option.{option_map}
use Rattle.std.proofs.lemmas.Bool.{and_parts, false_from_ne_true, or_right}
use Rattle.std.proofs.lemmas.Bool.Decides.{nat_tests}
use Rattle.std.proofs.lemmas.Option.{same_Some}
use Rattle.gp_base.specs.ListLaws.{AreDifferent, contains_got, first_or_rest, here, mapped, recursion_at, there}
use Rattle.gp_window.specs.declared.schedule.EventId.{EventId}
use Rattle.gp_instance.specs.Matched.{IsMatch, StandsAt, StandsBefore, StandsOnce}
use Rattle.gp_instance.specs.Matches.{all_before, follow, is_before, is_before_all, place_of, stands_together}
use Rattle.gp_instance.proofs.Ends.{position_cons}
use Rattle.gp_window.specs.IdLaws.{same_id, same_itself}
use Rattle.gp_window.specs.Ids.{contains_event, is_same}
use Rattle.gp_instance.proofs.InRows.{from_row, in_row}

-- a test of all elements is one of each
each_passes : {A : Type 0} (p : A → Bool) (xs : List A) → list_all p xs ≡ true → (x : A) → Contains xs x → p x ≡ true
each_passes p [] all x holds = absurd (omega (arith, holds.1))
each_passes p (y ∷ xs) all x holds =
    let pass = and_parts _ _ all in
    elim (first_or_rest y xs x holds) [ inl is ↦ subst (λ z. p z ≡ true) is pass.0 | inr rest ↦ each_passes p xs pass.1 x rest ]

all_pass : {A : Type 0} (p : A → Bool) (xs : List A) → ((x : A) → Contains xs x → p x ≡ true) → list_all p xs ≡ true
all_pass p [] each = refl
all_pass p (x ∷ xs) each = rw (each x (here x xs)) (all_pass p xs (λ y holds. each y (there x xs y holds)))

-- an event stands at the place that is found for it
placed : (schedule : List EventId) (id : EventId) (place : ℕ) → place_of schedule id ≡ Some place → StandsAt schedule place id
placed [] id place is = absurd (let none : None ≡ Some place = is in cc)
placed (first ∷ rest) id place is = by_cases (placed rest id) (is_same first id) refl (sym (position_cons (λ other. is_same other id) first rest) ∙ is)
  where
    by_cases : ((n : ℕ) → place_of rest id ≡ Some n → StandsAt rest n id) → (b : Bool) → is_same first id ≡ b → cond b (Some 0) (option_map suc (place_of rest id)) ≡ Some place → slice_get (first ∷ rest) place ≡ Some id
    by_cases behind true same first_here = subst (λ n. slice_get (first ∷ rest) n ≡ Some id) (same_Some 0 place first_here) (ap Some (same_id first id same))
    by_cases behind false other later =
        let found = mapped suc (place_of rest id) place later in
        subst (λ n. slice_get (first ∷ rest) n ≡ Some id) found.2 (behind found.0 found.1)

-- where no event stands twice, that place is found at which an event stands
found_at : (schedule : List EventId) (id : EventId) (place : ℕ) → AreDifferent schedule → StandsAt schedule place id → place_of schedule id ≡ Some place
found_at [] id place apart at = absurd (cc)
found_at (first ∷ rest) id zero apart at =
    let same : is_same first id ≡ true = subst (λ other. is_same first other ≡ true) (same_Some first id at) (same_itself first) in
    position_cons (λ other. is_same other id) first rest ∙ ap (λ b. cond b (Some 0) (option_map suc (place_of rest id))) same
found_at (first ∷ rest) id (suc place) apart at =
    let differs : is_same first id ≡ false = false_from_ne_true _ (λ same. recursion_at (λ other. first ≢ other) rest id apart.0 (contains_got rest place id at) (same_id first id same)) in
    position_cons (λ other. is_same other id) first rest
    ∙ ap (λ b. cond b (Some 0) (option_map suc (place_of rest id))) differs
    ∙ ap (option_map suc) (found_at rest id place apart.1 at)

-- one of some events has a place among them
has_place : (schedule : List EventId) (id : EventId) → contains_event schedule id ≡ true → (place : ℕ) × StandsAt schedule place id
has_place [] id among = absurd (cc)
has_place (first ∷ rest) id among = by_cases (has_place rest id) (is_same first id) refl among
  where
    by_cases : (contains_event rest id ≡ true → (place : ℕ) × StandsAt rest place id) → (b : Bool) → is_same first id ≡ b → (b || contains_event rest id) ≡ true → (place : ℕ) × StandsAt (first ∷ rest) place id
    by_cases behind true same one = (0, ap Some (same_id first id same))
    by_cases behind false other one = let found = behind one in (suc found.0, found.1)

-- what has a place is one of the events
has_among : (schedule : List EventId) (id : EventId) (place : ℕ) → StandsAt schedule place id → contains_event schedule id ≡ true
has_among [] id place at = absurd (cc)
has_among (first ∷ rest) id zero at = rw (subst (λ other. is_same first other ≡ true) (same_Some first id at) (same_itself first)) refl
has_among (first ∷ rest) id (suc place) at = or_right (is_same first id) (contains_event rest id) (has_among rest id place at)

-- where no event stands twice, one that stands stands once
once_where : (schedule : List EventId) (id : EventId) → AreDifferent schedule → contains_event schedule id ≡ true → StandsOnce schedule id
once_where schedule id apart among =
    let found = has_place schedule id among in
    (found.0, found.1, λ other at. same_Some other found.0 (sym (found_at schedule id other apart at) ∙ found_at schedule id found.0 apart found.1))

-- one place before another
places_before : (one other : Option ℕ) → is_before one other ≡ true → (place : ℕ) × (later : ℕ) × (one ≡ Some place) × (other ≡ Some later) × (place < later)
places_before None other is = absurd (cc)
places_before (Some place) None is = absurd (cc)
places_before (Some place) (Some later) is = (place, later, refl, refl, grind (arith, nat_tests))

before_places : (place later : ℕ) → place < later → is_before (Some place) (Some later) ≡ true
before_places place later less = grind (arith, nat_tests)

-- each of some events stands before each of others
all_stand_before : (schedule earlier later : List EventId) → all_before schedule earlier later ≡ true
    → (one other : EventId) → Contains earlier one → Contains later other → StandsBefore schedule one other
all_stand_before schedule earlier later all one other holds holds' =
    let row = each_passes (λ id. is_before_all schedule id later) earlier all one holds in
    let found = places_before (place_of schedule one) (place_of schedule other) (each_passes (λ id. is_before (place_of schedule one) (place_of schedule id)) later row other holds') in
    (found.0, found.1, placed schedule one found.0 found.2, placed schedule other found.1 found.3, found.4)

stand_before_all : (schedule earlier later : List EventId) → AreDifferent schedule
    → ((one other : EventId) → Contains earlier one → Contains later other → StandsBefore schedule one other) → all_before schedule earlier later ≡ true
stand_before_all schedule earlier later apart stand =
    all_pass (λ id. is_before_all schedule id later) earlier (λ one holds. all_pass (λ id. is_before (place_of schedule one) (place_of schedule id)) later (λ other holds'.
    let before = stand one other holds holds' in
    ap (λ place. is_before place (place_of schedule other)) (found_at schedule one before.0 apart before.2)
    ∙ ap (is_before (Some before.0)) (found_at schedule other before.1 apart before.3)
    ∙ before_places before.0 before.1 before.4))

-- steps that follow one another are tested two by two
two_by_two : (schedule before : List EventId) (steps : List (List EventId)) → follow schedule before steps ≡ true
    → (k : ℕ) (step next : List EventId) → slice_get (before ∷ steps) k ≡ Some step → slice_get steps k ≡ Some next → all_before schedule step next ≡ true
two_by_two schedule before [] follows k step next one two = absurd (cc)
two_by_two schedule before (first ∷ steps) follows zero step next one two =
    let pass = and_parts _ _ follows in
    ap (λ ids. all_before schedule ids next) (sym (same_Some before step one)) ∙ ap (all_before schedule before) (sym (same_Some first next two)) ∙ pass.0
two_by_two schedule before (first ∷ steps) follows (suc k) step next one two = two_by_two schedule first steps (and_parts _ _ follows).1 k step next one two

follow_by_two : (schedule before : List EventId) (steps : List (List EventId))
    → ((k : ℕ) (step next : List EventId) → slice_get (before ∷ steps) k ≡ Some step → slice_get steps k ≡ Some next → all_before schedule step next ≡ true)
    → follow schedule before steps ≡ true
follow_by_two schedule before [] two = refl
follow_by_two schedule before (first ∷ steps) two =
    rw (two zero before first refl refl) (follow_by_two schedule first steps (λ k step next one other. two (suc k) step next one other))

-- the test of the steps before the first of which there is none
from_first : (schedule : List EventId) (steps : List (List EventId))
    → ((k : ℕ) (step next : List EventId) → slice_get steps k ≡ Some step → slice_get steps (suc k) ≡ Some next → all_before schedule step next ≡ true)
    → (k : ℕ) (step next : List EventId) → slice_get ([] ∷ steps) k ≡ Some step → slice_get steps k ≡ Some next → all_before schedule step next ≡ true
from_first schedule steps two zero step next one other = ap (λ ids. all_before schedule ids next) (sym (same_Some [] step one))
from_first schedule steps two (suc k) step next one other = two k step next one other

-- a schedule that passes the tests matches
pub is_match : (events : List EventId) (steps : List (List EventId)) (schedule : List EventId) → AreDifferent schedule
    → (list_all (contains_event schedule) events && follow schedule [] steps && list_all (λ step. stands_together step schedule) steps) ≡ true
    → IsMatch events steps schedule
is_match events steps schedule apart passes =
    let rows = and_parts _ _ passes in
    let order = and_parts _ _ rows.0 in
    record {
      once = λ id holds. once_where schedule id apart (each_passes (contains_event schedule) events order.0 id holds);
      ordered = λ k step next one other. all_stand_before schedule step next (two_by_two schedule [] steps order.1 (suc k) step next one other);
      side_by_side = λ step holds. in_row step schedule apart (each_passes (λ one. stands_together one schedule) steps rows.1 step holds);
    }

-- a schedule that matches passes them
pub match_passes : (events : List EventId) (steps : List (List EventId)) (schedule : List EventId) → AreDifferent schedule → IsMatch events steps schedule
    → (list_all (contains_event schedule) events && follow schedule [] steps && list_all (λ step. stands_together step schedule) steps) ≡ true
match_passes events steps schedule apart is =
    let among = all_pass (contains_event schedule) events (λ id holds. let once = is.once id holds in has_among schedule id once.0 once.1) in
    let order = follow_by_two schedule [] steps (from_first schedule steps (λ k step next one other. stand_before_all schedule step next apart (is.ordered k step next one other))) in
    let rows = all_pass (λ step. stands_together step schedule) steps (λ step holds. from_row step schedule (is.side_by_side step holds)) in
    rw among (rw order rows)
