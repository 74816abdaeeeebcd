-- A schedule that matches an instance meets its query.
use Rattle.std.proofs.Common.{ℕ, zero, suc, pos, ◌≡◌, ◌≢◌, ◌+◌, ◌-◌, ◌<◌, ◌≤◌, ◌-ℤ◌, ◌≤ℤ◌, ap, sym, ◌∙◌, refl, subst, inl, inr, List, [], ◌∷◌, ◌++◌, Bool, true, false, cond, length, length-append, append_assoc, arith}
use Rattle.std.specs.Prelude.{Some, None, Contains, nat_lt, ◌&&◌}
use Rattle.std.specs.List.{AllByRecursion, list_all, position_or_len}
use Rattle.std.proofs.lemmas.Bool.{and_parts, cases_Bool, cases_eq, cases_lt, ltb-true}
use Rattle.std.proofs.lemmas.Int.{ints}
use Rattle.std.proofs.lemmas.List.{length-replicate}
use Rattle.gp_base.specs.ListLaws.{pairwise_from_pairs}
use Rattle.gp_property.specs.PropertyForm.{PropertyForm}
use Rattle.gp_instance.specs.Matches.{all_before, follow, groups_of, is_before, is_before_all, matches_events, stands_together}
use Rattle.gp_instance.specs.Rows.{GroupsStandInRows, IsRow, StandsInRow}
use Rattle.gp_window.specs.declared.schedule.EventId.{EventId}
use Rattle.gp_window.specs.WindowForm.{WindowForm}
use Rattle.gp_window.specs.IdLaws.{in_middle}
use Rattle.gp_window.specs.Ids.{contains_event, is_same}
use Rattle.gp_replay.specs.CountLaws.{run_is_distinct}
use Rattle.gp_replay.specs.Feasible.{IsFeasible}
use Rattle.gp_replay.specs.Step.{start_state}
use Rattle.gp_replay.specs.StepLaws.{stepped}
use Rattle.gp_constraint.specs.PointLaws.{IsEventOf}
use Rattle.gp_witness.specs.Asked.{IsDecided, IsNear, MeetsQuery, StepsFollow}
use Rattle.gp_witness.specs.ScheduleTruth.{before_of, schedule_place, schedule_truth}
use Rattle.gp_witness.proofs.Done.{happened, stands_at}
use Rattle.gp_witness.proofs.Placed.{less_pos, numbers_differ, place_executed}

-- the place in gp_instance's words
position_is : (ids : List EventId) (e : EventId) → position_or_len (λ other. is_same other e) ids ≡ length (before_of ids e)
position_is [] e = refl
position_is (id ∷ ids) e =
    elim (cases_Bool (is_same id e)) [
      | inl same ↦ rw same refl
      | inr differ ↦ let rest = position_is ids e in rw differ (omega (arith, rest))
    ]

-- what a test of all says of one
pub of_all : {X : Type 0} (test : X → Bool) (xs : List X) (x : X) → list_all test xs ≡ true → Contains xs x → test x ≡ true
of_all test [] x all (k, within, is) = absurd (omega arith)
of_all test (y ∷ ys) x all (zero, within, is) = subst (λ z. test z ≡ true) is (and_parts (test y) (list_all test ys) all).0
of_all test (y ∷ ys) x all (suc k, within, is) = of_all test ys x (and_parts (test y) (list_all test ys) all).1 (k, omega arith, is)

ordered : (p q n : ℕ) → is_before (cond (nat_lt p n) (Some p) None) (cond (nat_lt q n) (Some q) None) ≡ true → (p < n) × (q < n) × (p < q)
ordered p q n is =
    elim (cases_Bool (nat_lt p n)) [
      | inl there ↦ elim (cases_Bool (nat_lt q n)) [
        | inl too ↦ (ltb-true p n there, ltb-true q n too, ltb-true p q (rw (there, too) at is))
        | inr absent ↦ let bad : false ≡ true = rw (there, absent) at is in cc
      ]
      | inr absent ↦ let bad = rw absent at is in cc
    ]

-- what has fewer before it than there are is there
within_in : (ids : List EventId) (e : EventId) → length (before_of ids e) < length ids → contains_event ids e ≡ true
within_in [] e less = absurd (omega arith)
within_in (id ∷ ids) e less =
    elim (cases_Bool (is_same id e)) [
      | inl same ↦ rw same refl
      | inr differ ↦ let shorter = rw differ at less in rw differ (within_in ids e (omega (arith, shorter)))
    ]

before_places : (window : WindowForm) (ids : List EventId) (e f : EventId)
    → is_before (cond (nat_lt (position_or_len (λ other. is_same other e) ids) (length ids)) (Some (position_or_len (λ other. is_same other e) ids)) None)
    (cond (nat_lt (position_or_len (λ other. is_same other f) ids) (length ids)) (Some (position_or_len (λ other. is_same other f) ids)) None) ≡ true
    → schedule_place window ids e < schedule_place window ids f
before_places window ids e f is =
    let parts = ordered (position_or_len (λ other. is_same other e) ids) (position_or_len (λ other. is_same other f) ids) (length ids) is in
    let below_e = parts.0 in
    let below_f = parts.1 in
    let less = parts.2 in
    let p = position_is ids e in
    let q = position_is ids f in
    let at_e = place_executed window ids e (within_in ids e (omega (arith, below_e, p))) in
    let at_f = place_executed window ids f (within_in ids f (omega (arith, below_f, q))) in
    omega (arith, less, p, q, at_e, at_f)

steps_follow : (window : WindowForm) (ids earlier : List EventId) (groups : List (List EventId)) → follow ids earlier groups ≡ true
    → StepsFollow (schedule_truth window ids) earlier groups
steps_follow window ids earlier [] is = tt
steps_follow window ids earlier (group ∷ groups) is =
    let parts = and_parts (all_before ids earlier group) (follow ids group groups) is in (
      (λ e f in_e in_f. less_pos (schedule_place window ids e) (schedule_place window ids f)
          (before_places window ids e f (of_all _ group f (of_all (λ one. is_before_all ids one group) earlier e parts.0 in_e) in_f))),
      steps_follow window ids group groups parts.1,
    )

-- what a list contains stands behind what is before it
parted : (xs : List EventId) (x : EventId) → Contains xs x → (front : List EventId) × (back : List EventId) × (xs ≡ front ++ x ∷ back)
parted [] x (k, within, is) = absurd (omega arith)
parted (y ∷ ys) x (zero, within, is) = ([], ys, ap (λ z. z ∷ ys) is)
parted (y ∷ ys) x (suc k, within, is) = let rest = parted ys x (k, omega arith, is) in (y ∷ rest.0, rest.1, ap (λ zs. y ∷ zs) rest.2)

-- the place of an event of a row
record IsInside (ids : List EventId) (e : EventId) (low long place : ℕ) : Type 0 where
  there : contains_event ids e ≡ true
  least : low ≤ place
  most : place < low + long

row_place : (window : WindowForm) (ids front row back : List EventId) (e : EventId) → IsFeasible window ids → ids ≡ front ++ (row ++ back) → Contains row e
    → IsInside ids e (length front) (length row) (schedule_place window ids e)
row_place window ids front row back e feasible is has =
    let split = parted row e has in
    let front_row : List EventId = split.0 in
    let whole : ids ≡ (front ++ front_row) ++ e ∷ (split.1 ++ back) =
    is ∙ ap (λ list. front ++ (list ++ back)) split.2 ∙ ap (λ list. front ++ list) (append_assoc front_row (e ∷ split.1) back) ∙ sym (append_assoc front front_row (e ∷ (split.1 ++ back))) in
    let stands = stands_at window ids (front ++ front_row) e (split.1 ++ back) feasible whole in
    let there : contains_event ids e ≡ true = subst (λ list. contains_event list e ≡ true) (sym whole) (in_middle (front ++ front_row) (split.1 ++ back) e) in
    let at = place_executed window ids e there in
    let many : length (before_of ids e) ≡ length (front ++ front_row) = ap length stands in
    let sum : length (front ++ front_row) ≡ length front + length front_row = length-append front front_row in
    let long : length row ≡ length (front_row ++ e ∷ split.1) = ap length split.2 in
    let parts : length (front_row ++ e ∷ split.1) ≡ length front_row + length (e ∷ split.1) = length-append front_row (e ∷ split.1) in
    record { there = there; least = omega (arith, at, many, sum); most = omega (arith, at, many, sum, long, parts) }

-- a group that stands together stands in a row
in_row : (window : WindowForm) (ids group : List EventId) → GroupsStandInRows → IsFeasible window ids → stands_together group ids ≡ true → StandsInRow group ids
in_row window ids group rows feasible together =
    (rows group ids (pairwise_from_pairs (λ one other. one ≢ other) ids (run_is_distinct window (start_state window) feasible.0 ids (length-replicate (length window.segments) 0) feasible.1))).0 together

near_places : (p q low n : ℕ) → p < low + n → low ≤ q → (pos p -ℤ pos q) ≤ℤ pos (n - 1)
near_places p q low n most least = omega (arith, ints, most, least)

is_near : (window : WindowForm) (ids group : List EventId) → GroupsStandInRows → IsFeasible window ids → stands_together group ids ≡ true → IsNear (schedule_truth window ids) group
is_near window ids group rows feasible together a b in_a in_b =
    let row = in_row window ids group rows feasible together in
    let is_row : IsRow group row.1 = row.4 in
    let at_a = row_place window ids row.0 row.1 row.2 a feasible row.3 (is_row.all a in_a) in
    let at_b = row_place window ids row.0 row.1 row.2 b feasible row.3 (is_row.all b in_b) in
    let most = at_a.most in
    let least = at_b.least in
    let long : length row.1 ≡ length group = is_row.long in
    near_places (schedule_place window ids a) (schedule_place window ids b) (length row.0) (length group) (omega (arith, most, long)) least

-- an executed event is one of the window
pub executed_event : (window : WindowForm) (ids : List EventId) (e : EventId) → IsFeasible window ids → contains_event ids e ≡ true → IsEventOf window e
executed_event window ids e feasible is =
    let h = happened window ids e feasible is in
    let s = stepped window h.state h.middle e h.step in (s.event, s.there)

is_decided : (window : WindowForm) (ids group : List EventId) → GroupsStandInRows → IsFeasible window ids → stands_together group ids ≡ true → IsDecided window (schedule_truth window ids) group
is_decided window ids group rows feasible together many one other in_one is_event apart =
    let row = in_row window ids group rows feasible together in
    let is_row : IsRow group row.1 = row.4 in
    let there = (row_place window ids row.0 row.1 row.2 one feasible row.3 (is_row.all one in_one)).there in
    elim (cases_lt (schedule_place window ids one) (schedule_place window ids other)) [
      | inl less ↦ inl (less_pos (schedule_place window ids one) (schedule_place window ids other) less)
      | inr more ↦ elim (cases_eq (schedule_place window ids one) (schedule_place window ids other)) [
        | inl same ↦ absurd (apart (numbers_differ window ids one other (executed_event window ids one feasible there) is_event same))
        | inr differ ↦ inr (less_pos (schedule_place window ids other) (schedule_place window ids one) (omega (arith, more, differ)))
      ]
    ]

each_group : (window : WindowForm) (ids : List EventId) (groups : List (List EventId)) (P : List EventId → Type 0)
    → ((group : List EventId) → stands_together group ids ≡ true → P group) → list_all (λ group. stands_together group ids) groups ≡ true → AllByRecursion P groups
each_group window ids [] P holds is = tt
each_group window ids (group ∷ groups) P holds is =
    let parts = and_parts (stands_together group ids) (list_all (λ g. stands_together g ids) groups) is in
    (holds group parts.0, each_group window ids groups P holds parts.1)

pub matches_meet : (window : WindowForm) (ids : List EventId) (property : PropertyForm) (events : List EventId) → GroupsStandInRows → IsFeasible window ids
    → matches_events property events ids ≡ true → MeetsQuery window (schedule_truth window ids) property events
matches_meet window ids property events rows feasible is =
    let groups : List (List EventId) = groups_of property.pattern events in
    let parts = and_parts (list_all (contains_event ids) events && follow ids [] groups) (list_all (λ group. stands_together group ids) groups) is in
    let more = and_parts (list_all (contains_event ids) events) (follow ids [] groups) parts.0 in
    record {
      executed = λ e has. of_all (contains_event ids) events e more.0 has;
      follow = steps_follow window ids [] groups more.1;
      near = each_group window ids groups (IsNear (schedule_truth window ids)) (λ group together. is_near window ids group rows feasible together) parts.1;
      decided = each_group window ids groups (IsDecided window (schedule_truth window ids)) (λ group together. is_decided window ids group rows feasible together) parts.1;
    }
