-- A schedule up to the last event of an instance.
use Rattle.std.proofs.Common.{◌≡◌, ap, sym, refl, subst, inl, inr, List, [], ◌∷◌, ◌++◌, Bool, true, Contains, arith}
use Rattle.std.specs.List.{AllByRecursion, list_any}
use Rattle.std.proofs.lemmas.Bool.{cases_Bool}
use Rattle.std.proofs.lemmas.List.Elements.{Contains-append_left}
use Rattle.gp_window.specs.declared.schedule.EventId.{EventId}
use Rattle.gp_window.specs.IdLaws.{contains_means}
use Rattle.gp_window.specs.Ids.{contains_event}
use Rattle.gp_property.specs.PropertyForm.{PropertyForm}
use Rattle.gp_instance.specs.Matches.{groups_of, matches_events}
use Rattle.gp_base.specs.ListLaws.{first_or_rest, nothing_in, recursion_parts, there}
use Rattle.gp_witness.specs.Meaning.{Truth}
use Rattle.gp_witness.specs.Witness.{up_to_last}
use Rattle.gp_witness.proofs.Group.{IsGroup}
use Rattle.gp_witness.proofs.Match.{in_groups, IsStep, schedule_matches, InstanceStands, StepsStand}
use Rattle.gp_witness.proofs.Sorted.{Does, IsScheduleOf, IsSorted, MayPrecede}

-- the truth of which only a front of its schedule is executed
abbrev cut : Truth → List EventId → Truth
cut t front = record t { executed = contains_event front }

cut_sorted : (t : Truth) (events front back : List EventId) → IsSorted t (front ++ back) → IsSorted (cut t events) front
cut_sorted t events [] back h = tt
cut_sorted t events (id ∷ front) back h = ((recursion_parts (MayPrecede t id) front back h.0).0, cut_sorted t events front back h.1)

cut_schedule : (t : Truth) (front back : List EventId) → IsSorted t (front ++ back) → IsScheduleOf (cut t front) front
cut_schedule t front back h = record {
  sorted = cut_sorted t front front back h;
  only = λ id i. (contains_means front id).1 i;
  all = λ id does. (contains_means front id).0 does;
}

cut_follow : (t : Truth) (events before : List EventId) (groups : List (List EventId)) → StepsStand t before groups → StepsStand (cut t events) before groups
cut_follow t events before [] h = tt
cut_follow t events before (group ∷ groups) h = (h.0, cut_follow t events group groups h.1)

cut_group : (t : Truth) (front group : List EventId) → ((id : EventId) → Contains front id → Does t id) → ((id : EventId) → Contains group id → Contains front id)
    → IsGroup t group → IsGroup (cut t front) group
cut_group t front group only inside g = record {
  does = λ id i. (contains_means front id).1 (inside id i);
  different = g.different;
  near = g.near;
  ordered = λ id other i does apart. g.ordered id other i (only other ((contains_means front other).0 does)) apart;
}

cut_steps : (t : Truth) (front : List EventId) (groups : List (List EventId)) → ((id : EventId) → Contains front id → Does t id)
    → AllByRecursion (λ group. (id : EventId) → Contains group id → Contains front id) groups → AllByRecursion (IsStep t) groups
    → AllByRecursion (IsStep (cut t front)) groups
cut_steps t front [] only inside steps = tt
cut_steps t front (group ∷ groups) only inside steps = (
  (elim steps.0 [
    | inl single ↦ inl single
    | inr g ↦ inr (cut_group t front group only inside.0 g)
  ]),
  cut_steps t front groups only inside.1 steps.1,
)

-- a front of the t's schedule that has all events of an instance matches it too
pub front_matches : (t : Truth) (front back : List EventId) (property : PropertyForm) (events : List EventId) → IsScheduleOf t (front ++ back)
    → ((id : EventId) → Contains events id → Contains front id) → InstanceStands t property events → matches_events property events front ≡ true
front_matches t front back property events s there q =
    let groups : List (List EventId) = groups_of property.pattern events in
    let only : (id : EventId) → Contains front id → Does t id = λ id i. s.only id (Contains-append_left front back id i) in
    schedule_matches (cut t front) front property events (cut_schedule t front back s.sorted) (record {
      does = λ id i. (contains_means front id).1 (there id i);
      follow = cut_follow t front [] groups q.follow;
      steps = cut_steps t front groups only (in_groups front events property.pattern there) q.steps;
    })

-- where the last event of an instance is
pub up_back : (events ids : List EventId) → (back : List EventId) × (ids ≡ up_to_last events ids ++ back)
up_back events [] = ([], refl)
up_back events (id ∷ ids) =
    elim (cases_Bool (list_any (contains_event events) (id ∷ ids))) [
      | inl some ↦ let rest = up_back events ids in (rest.0, rw some (ap (λ xs. id ∷ xs) rest.1))
      | inr none ↦ (id ∷ ids, rw none refl)
    ]

any_from : (p : EventId → Bool) (id : EventId) (ids : List EventId) → Contains ids id → p id ≡ true → list_any p ids ≡ true
any_from p id [] i e = absurd (nothing_in _ i)
any_from p id (first ∷ ids) i e =
    elim (first_or_rest _ _ _ i) [
      | inl same ↦ let here : p first ≡ true = subst (λ o. p o ≡ true) (sym same) e in rw here refl
      | inr i ↦
          let rest = any_from p id ids i e in
          elim (cases_Bool (p first)) [
            | inl here ↦ rw here refl
            | inr not ↦ rw (not, rest) refl
          ]
    ]

pub up_has : (events ids : List EventId) (id : EventId) → Contains ids id → Contains events id → Contains (up_to_last events ids) id
up_has events [] id i j = absurd (nothing_in _ i)
up_has events (first ∷ ids) id i j =
    let some : list_any (contains_event events) (first ∷ ids) ≡ true = any_from (contains_event events) id (first ∷ ids) i ((contains_means events id).1 j) in
    let kept : Contains (first ∷ up_to_last events ids) id = elim (first_or_rest _ _ _ i) [
      | inl same ↦ (0, omega arith, same)
      | inr later ↦ there _ _ _ (up_has events ids id later j)
    ] in
    rw some kept
