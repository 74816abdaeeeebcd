-- Which write a read sees.
use Rattle.std.proofs.Common.{ℕ, ◌≡◌, ◌<◌, ap, sym, ◌∙◌, refl, subst, inl, inr, List, [], ◌∷◌, ◌++◌, Bool, true, false, not, arith, append_assoc}
use Rattle.std.specs.Prelude.{ℤ, pos, Option, Some, None, is_some, unwrap_or}
use Rattle.std.specs.Cmp.Lexicographic.{slice_cmp}
use Rattle.std.specs.Ordering.{nat_cmp}
use Rattle.std.proofs.lemmas.Bool.{and_from, and_parts, cases_Bool, cases_eq, cases_lt, false_from_ne_true}
use Rattle.std.proofs.lemmas.Slice.Eq.{bytes_eq-Decides}
use Rattle.gp_base.specs.Table.{value_at}
use Rattle.gp_trace.specs.declared.event.Event.{Event}
use Rattle.gp_trace.specs.declared.event.Event.TheVariants.{Read, Write}
use Rattle.gp_window.specs.declared.schedule.EventId.{EventId}
use Rattle.gp_window.specs.Events.{event_at}
use Rattle.gp_window.specs.WindowForm.{start_value, WindowForm}
use Rattle.gp_window.specs.IdLaws.{in_cases, in_middle, in_parts, same_id, same_itself}
use Rattle.gp_window.specs.Ids.{contains_event}
use Rattle.gp_replay.specs.Step.{start_state, value_of}
use Rattle.gp_replay.specs.Feasible.{IsFeasible, Runs}
use Rattle.gp_replay.specs.Value.{NoneWrites, Reads, Writes}
use Rattle.gp_replay.specs.ValueLaws.{read_in_run}
use Rattle.gp_constraint.specs.StandingLaws.{before_apart, before_in}
use Rattle.gp_witness.specs.Meaning.{ChoicesHold, ReadsHold, StartChoicesHold}
use Rattle.gp_witness.specs.ScheduleTruth.{before_of, is_that, last_write, later_of, schedule_place, schedule_truth, sees_start, sees_write, writes_to}
use Rattle.gp_witness.proofs.Done.{happened, stands_at}
use Rattle.gp_witness.proofs.Placed.{less_back, less_pos, place_executed, precedes, rises, stands_before}

-- a window begins with the values that it tells
pub record IsTold (window : WindowForm) : Type 0 where
  pub values : (start_state window).values ≡ window.start_values

-- the value with which a variable begins
begins_with : (window : WindowForm) (variable : List ℕ) → IsTold window → value_of (start_state window) variable ≡ start_value window variable
begins_with window variable told = ap (λ (values : List (List ℕ × ℤ)). unwrap_or (value_at (slice_cmp nat_cmp) values variable) (pos 0)) told.values

-- the test finds the writes to a variable
test_writes : (event : Option Event) (variable : List ℕ) → writes_to variable event ≡ true → (value : ℤ) × (event ≡ Some (Write variable value))
test_writes None variable e = cc
test_writes (Some (Write name value)) variable e = (value, ap (λ n. Some (Write n value)) ((bytes_eq-Decides name variable).0 e))
test_writes (Some _) variable e = cc

write_tests : (event : Option Event) (variable : List ℕ) (value : ℤ) → event ≡ Some (Write variable value) → writes_to variable event ≡ true
write_tests event variable value e = rw e ((bytes_eq-Decides variable variable).1 refl)

-- where there is no write there is no last one, and the other way round
pub none_last : (window : WindowForm) (variable : List ℕ) (ids : List EventId) → NoneWrites window ids variable → last_write window variable ids ≡ None
none_last window variable [] none = refl
none_last window variable (id ∷ ids) none =
    let rest = none_last window variable ids none.1 in
    let test : writes_to variable (event_at window id) ≡ false =
    false_from_ne_true _ (λ writes. let found = test_writes (event_at window id) variable writes in none.0 found.0 found.1) in
    rw (test, rest) refl

-- a last write is a write with none after it
pub record IsLast (window : WindowForm) (variable : List ℕ) (ids : List EventId) (w : EventId) : Type 0 where
  pub front : List EventId
  pub back : List EventId
  pub is : ids ≡ front ++ w ∷ back
  pub value : ℤ
  pub writes : Writes window w variable value
  pub none : NoneWrites window back variable

abbrev Found : WindowForm → List ℕ → List EventId → Option EventId → Type 0
Found window variable ids None = NoneWrites window ids variable
Found window variable ids (Some w) = IsLast window variable ids w

later_found : (window : WindowForm) (variable : List ℕ) (id : EventId) (ids : List EventId) (b : Bool) (last : Option EventId)
    → writes_to variable (event_at window id) ≡ b → Found window variable ids last → Found window variable (id ∷ ids) (later_of b id last)
later_found window variable id ids b (Some w) test l = record { front = id ∷ l.front; back = l.back; is = ap (λ r. id ∷ r) l.is; value = l.value; writes = l.writes; none = l.none }
later_found window variable id ids true None test none =
    let found = test_writes (event_at window id) variable test in
    record { front = []; back = ids; is = refl; value = found.0; writes = found.1; none = none }
later_found window variable id ids false None test none =
    ((λ value writes. let bad : true ≡ false = sym (write_tests (event_at window id) variable value writes) ∙ test in cc), none)

pub last_found : (window : WindowForm) (variable : List ℕ) (ids : List EventId) → Found window variable ids (last_write window variable ids)
last_found window variable [] = tt
last_found window variable (id ∷ ids) =
    later_found window variable id ids (writes_to variable (event_at window id)) (last_write window variable ids) refl (last_found window variable ids)

-- a write with none after it is the last one
pub written_last : (window : WindowForm) (variable : List ℕ) (value : ℤ) (front : List EventId) (w : EventId) (back : List EventId)
    → Writes window w variable value → NoneWrites window back variable → last_write window variable (front ++ w ∷ back) ≡ Some w
written_last window variable value [] w back writes none =
    let test = write_tests (event_at window w) variable value writes in
    let rest = none_last window variable back none in
    rw (test, rest) refl
written_last window variable value (id ∷ front) w back writes none =
    let rest = written_last window variable value front w back writes none in
    rw rest refl

-- none of the events that write nothing writes
none_in : (window : WindowForm) (variable : List ℕ) (ids : List EventId) (e : EventId) (value : ℤ) → NoneWrites window ids variable → contains_event ids e ≡ true → Writes window e variable value → ⊥
none_in window variable [] e value none is writes = cc
none_in window variable (id ∷ ids) e value none is writes =
    elim (in_cases id ids e is) [
      | inl same ↦ none.0 value (subst (λ x. Writes window x variable value) (sym same) writes)
      | inr rest ↦ none_in window variable ids e value none.1 rest writes
    ]

-- a write writes one value
one_value : (window : WindowForm) (w : EventId) (variable : List ℕ) (one other : ℤ) → Writes window w variable one → Writes window w variable other → one ≡ other
one_value window w variable one other first second = let same : ◌≡◌ {A = Option Event} (Some (Write variable one)) (Some (Write variable other)) = sym first ∙ second in cc

-- a read is no write
read_apart : (window : WindowForm) (r w : EventId) (variable : List ℕ) (value written : ℤ) → Reads window r variable value → Writes window w variable written → w ≡ r → ⊥
read_apart window r w variable value written reads writes same =
    let bad : ◌≡◌ {A = Option Event} (Some (Read variable value)) (Some (Write variable written)) =
    sym reads ∙ ap (λ x. event_at window x) (sym same) ∙ writes in
    cc

-- an executed event that does not stand before another one, and is not it, comes after it
comes_after : (window : WindowForm) (ids : List EventId) (r w : EventId) → contains_event ids r ≡ true → contains_event ids w ≡ true
    → (w ≡ r → ⊥) → (contains_event (before_of ids r) w ≡ true → ⊥) → schedule_place window ids r < schedule_place window ids w
comes_after window ids r w is_r is_w apart not_before =
    elim (cases_lt (schedule_place window ids r) (schedule_place window ids w)) [
      | inl less ↦ less
      | inr more ↦ elim (cases_eq (schedule_place window ids w) (schedule_place window ids r)) [
        | inl same ↦
            let at_w = place_executed window ids w is_w in
            let at_r = place_executed window ids r is_r in
            absurd (apart (before_apart ids w r is_w is_r (omega (arith, at_w, at_r, same))))
        | inr differ ↦ absurd (not_before (stands_before window ids w r is_w is_r (omega (arith, more, differ))))
      ]
    ]

that_is : (w : EventId) (last : Option EventId) → is_that w last ≡ true → last ≡ Some w
that_is w None e = cc
that_is w (Some last) e = ap Some (same_id last w e)

is_none : (last : Option EventId) → not (is_some last) ≡ true → last ≡ None
is_none None e = refl
is_none (Some last) e = cc

-- a write before a read is not after it in its own thread
not_after : (window : WindowForm) (ids : List EventId) (r w : EventId) (variable : List ℕ) (value written : ℤ) → IsFeasible window ids
    → Reads window r variable value → Writes window w variable written → schedule_place window ids w < schedule_place window ids r
    → w.thread ≡ r.thread → w.index < r.index
not_after window ids r w variable value written feasible reads writes less own =
    elim (cases_lt w.index r.index) [
      | inl below ↦ below
      | inr above ↦ elim (cases_eq r.index w.index) [
        | inl same ↦ absurd (read_apart window r w variable value written reads writes (λ i. record { thread = own i; index = sym same i }))
        | inr differ ↦
            let later = rises window ids feasible r w (sym own) (omega (arith, above, differ)) in
            absurd (omega (arith, less, later))
      ]
    ]

-- an executed read finds the write that was the last, or the start value
pub reads_hold : (window : WindowForm) (ids : List EventId) → IsTold window → IsFeasible window ids → ReadsHold window (schedule_truth window ids)
reads_hold window ids told feasible r variable value reads is_r =
    let h = happened window ids r feasible is_r in
    let front : List EventId = before_of ids r in
    let value_found = read_in_run window (start_state window) feasible.0 front r h.back variable value
    (subst (λ all. Runs window (start_state window) all feasible.0) h.is feasible.1) reads in
    elim value_found [
      | inl started ↦
          let none : last_write window variable front ≡ None = none_last window variable front started.1 in
          let start : sees_start window front (event_at window r) ≡ true = ap (λ event. sees_start window front event) reads ∙ ap (λ last. not (is_some last)) none in
          inr (sym (begins_with window variable told) ∙ started.0, and_from (contains_event ids r) (sees_start window front (event_at window r)) is_r start)
      | inr written ↦
          let w : EventId = written.1 in
          let last : last_write window variable front ≡ Some w =
          ap (λ list. last_write window variable list) written.3 ∙ written_last window variable value written.0 w written.2 written.4 written.5 in
          let chosen : sees_write window front (event_at window r) w ≡ true = ap (λ event. sees_write window front event w) reads ∙ ap (λ l. is_that w l) last ∙ same_itself w in
          let before : contains_event front w ≡ true = subst (λ list. contains_event list w ≡ true) (sym written.3) (in_middle written.0 written.2 w) in
          let comes = precedes window ids w r is_r before in
          inl (
            w,
            (written.4, not_after window ids r w variable value value feasible reads written.4 (less_back (schedule_place window ids w) (schedule_place window ids r) comes.1)),
            and_from (contains_event ids r) (sees_write window front (event_at window r) w) is_r chosen,
          )
    ]

pub choices_hold : (window : WindowForm) (ids : List EventId) → IsFeasible window ids → ChoicesHold window (schedule_truth window ids)
choices_hold window ids feasible r w variable value reads choice chosen =
    let front : List EventId = before_of ids r in
    let parts = and_parts (contains_event ids r) (sees_write window front (event_at window r) w) chosen in
    let is_r : contains_event ids r ≡ true = parts.0 in
    let that : is_that w (last_write window variable front) ≡ true = sym (ap (λ event. sees_write window front event w) reads) ∙ parts.1 in
    let last : last_write window variable front ≡ Some w = that_is w (last_write window variable front) that in
    let l : IsLast window variable front w = subst (λ o. Found window variable front o) last (last_found window variable front) in
    let h = happened window ids r feasible is_r in
    let before : contains_event front w ≡ true = subst (λ list. contains_event list w ≡ true) (sym l.is) (in_middle l.front l.back w) in
    let is_w : contains_event ids w ≡ true = before_in ids w r before in
    let whole : ids ≡ l.front ++ w ∷ (l.back ++ r ∷ h.back) = h.is ∙ ap (λ list. list ++ r ∷ h.back) l.is ∙ append_assoc l.front (w ∷ l.back) (r ∷ h.back) in
    let stands : before_of ids w ≡ l.front = stands_at window ids l.front w (l.back ++ r ∷ h.back) feasible whole in (
      precedes window ids w r is_r before,
      λ other written writes differ is_other.
          elim (cases_Bool (contains_event front other)) [
            | inl early ↦ elim (in_parts l.front (w ∷ l.back) other (subst (λ list. contains_event list other ≡ true) l.is early)) [
              | inl first ↦ inl (precedes window ids other w is_w (subst (λ list. contains_event list other ≡ true) (sym stands) first)).1
              | inr rest ↦ elim (in_cases w l.back other rest) [
                | inl same ↦ absurd (differ (one_value window w variable written value (subst (λ x. Writes window x variable written) (sym same) writes) choice.0))
                | inr late ↦ absurd (none_in window variable l.back other written l.none late writes)
              ]
            ]
            | inr late ↦ inr (less_pos (schedule_place window ids r) (schedule_place window ids other) (comes_after window ids r other is_r is_other (read_apart window r other variable value written reads writes)
                (λ early. let bad : true ≡ false = sym early ∙ late in cc)))
          ],
    )

pub start_choices_hold : (window : WindowForm) (ids : List EventId) → IsFeasible window ids → StartChoicesHold window (schedule_truth window ids)
start_choices_hold window ids feasible r variable value reads begins chosen other written writes differ is_other =
    let front : List EventId = before_of ids r in
    let parts = and_parts (contains_event ids r) (sees_start window front (event_at window r)) chosen in
    let that : not (is_some (last_write window variable front)) ≡ true = sym (ap (λ event. sees_start window front event) reads) ∙ parts.1 in
    let none : NoneWrites window front variable = subst (λ o. Found window variable front o) (is_none (last_write window variable front) that) (last_found window variable front) in
    less_pos (schedule_place window ids r) (schedule_place window ids other) (comes_after window ids r other parts.0 is_other (read_apart window r other variable value written reads writes)
    (λ early. none_in window variable front other written none early writes))
