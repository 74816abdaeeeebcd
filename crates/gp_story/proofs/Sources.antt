-- In a story of a feasible schedule reads look back at where their values come from.
use Rattle.std.proofs.Common.{◌≡◌, refl, ap, sym, ◌∙◌, subst, inl, inr, Bool, true, false, List, [], ◌∷◌, ◌++◌, append_assoc, cond, length, take}
use Rattle.std.specs.Prelude.{ℕ, ℤ, Contains, Option, option_and_then, reverse, Some, None}
use Rattle.std.specs.List.{AllByRecursion, find}
use Rattle.std.specs.Option.{option_eq, option_or}
use Rattle.std.specs.Str.{bytes_eq}
use Rattle.std.proofs.lemmas.Bool.{false_from_ne_true, false≢true}
use Rattle.std.proofs.lemmas.List.{append-nil, reverse-append, take_at}
use Rattle.std.proofs.lemmas.List.Folds.{find-append}
use Rattle.std.proofs.lemmas.Option.{none-some, same_Some}
use Rattle.std.proofs.lemmas.Slice.Eq.{bytes_eq-Decides}
use Rattle.gp_base.specs.ListLaws.{contains_middle, first_or_rest, nothing_in}
use Rattle.gp_base.specs.OrderLaws.{each}
use Rattle.gp_trace.specs.declared.event.Event.{Event}
use Rattle.gp_trace.specs.declared.event.Event.TheVariants.{Write}
use Rattle.gp_window.specs.Events.{event_at}
use Rattle.gp_window.specs.WindowForm.{start_value, value_in, WindowForm}
use Rattle.gp_window.specs.declared.schedule.EventId.{EventId}
use Rattle.gp_replay.specs.Feasible.{IsFeasible}
use Rattle.gp_replay.specs.Step.{start_state}
use Rattle.gp_replay.specs.Value.{IsLastValue, IsWrittenLast, NoneWrites, Reads, ReadsFindLastWrites, Writes}
use Rattle.gp_story.specs.declared.story.Source.{Source}
use Rattle.gp_story.specs.declared.story.Source.TheVariants.{Beginning, Earlier, Nothing}
use Rattle.gp_story.specs.declared.story.StoryLine.{StoryLine}
use Rattle.gp_story.specs.Deeds.{variable_written, writes}
use Rattle.gp_story.specs.Lines.{line_of, lines_from, lines_of}
use Rattle.gp_story.specs.Source.{last_where, or_beginning, source_of_found}

-- the last of events that passes, with one more before them
with_first : (test : EventId → Bool) (id : EventId) (ids : List EventId) → last_where test (id ∷ ids) ≡ option_or (last_where test ids) (cond (test id) (Some id) None)
with_first test id ids = ap (find test) (reverse-append (id ∷ []) ids) ∙ find-append test (reverse ids) (id ∷ [])

none_last : (test : EventId → Bool) (ids : List EventId) → AllByRecursion (λ id. test id ≡ false) ids → last_where test ids ≡ None
none_last test [] none = refl
none_last test (id ∷ ids) none =
    with_first test id ids
    ∙ ap (λ found. option_or found (cond (test id) (Some id) None)) (none_last test ids none.1)
    ∙ ap (λ b. cond b (Some id) None) none.0

last_found : (test : EventId → Bool) (front : List EventId) (id : EventId) (back : List EventId) → test id ≡ true → AllByRecursion (λ other. test other ≡ false) back
    → last_where test (front ++ id ∷ back) ≡ Some id
last_found test [] id back passes none =
    with_first test id back
    ∙ ap (λ found. option_or found (cond (test id) (Some id) None)) (none_last test back none)
    ∙ ap (λ b. cond b (Some id) None) passes
last_found test (first ∷ front) id back passes none =
    with_first test first (front ++ id ∷ back)
    ∙ ap (λ found. option_or found (cond (test first) (Some first) None)) (last_found test front id back passes none)

-- the test of a write says that the event writes
test_passes : (window : WindowForm) (id : EventId) (variable : List ℕ) (value : ℤ) → Writes window id variable value → writes window variable id ≡ true
test_passes window id variable value is =
    ap (λ found. option_eq bytes_eq (option_and_then variable_written found) (Some variable)) is ∙ (bytes_eq-Decides variable variable).1 refl

test_means : (window : WindowForm) (id : EventId) (variable : List ℕ) (found : Option Event) → event_at window id ≡ found
    → option_eq bytes_eq (option_and_then variable_written found) (Some variable) ≡ true → (value : ℤ) × Writes window id variable value
test_means window id variable None is e = absurd (false≢true e)
test_means window id variable (Some (Write name value)) is e =
    let same : name ≡ variable = (bytes_eq-Decides name variable).0 e in
    (value, is ∙ ap (λ (n : List ℕ). Some (Write n value)) same)
test_means window id variable (Some event) is e = absurd (false≢true e)

none_pass : (window : WindowForm) (variable : List ℕ) (ids : List EventId) → NoneWrites window ids variable → AllByRecursion (λ id. writes window variable id ≡ false) ids
none_pass window variable ids none =
    each (λ id. (value : ℤ) → ¬ Writes window id variable value) (λ id. writes window variable id ≡ false)
    (λ id never. false_from_ne_true (writes window variable id) (λ e.
    let wrote = test_means window id variable (event_at window id) refl e in
    never wrote.0 wrote.1)) ids none

-- what the last value says of the last write
last_written : (window : WindowForm) (ids : List EventId) (variable : List ℕ) (value : ℤ) (is : IsWrittenLast window ids variable value) → last_where (writes window variable) ids ≡ Some is.1
last_written window ids variable value is =
    ap (last_where (writes window variable)) is.3
    ∙ last_found (writes window variable) is.0 is.1 is.2 (test_passes window is.1 variable value is.4) (none_pass window variable is.2 is.5)

earlier_found : (found : Option EventId) (source : EventId) → or_beginning found ≡ Earlier source → found ≡ Some source
earlier_found None source is = cc
earlier_found (Some id) source is =
    let given : ◌≡◌ {A = Source} (Earlier id) (Earlier source) = is in
    let same : id ≡ source = cc in
    ap Some same

none_found : (found : Option EventId) → or_beginning found ≡ Beginning → found ≡ None
none_found None is = refl
none_found (Some id) is = cc

never_nothing : (found : Option EventId) → or_beginning found ≡ Nothing → ⊥
never_nothing None is = cc
never_nothing (Some id) is = cc

-- a line is that of one of the events, with those before it
line_at : (window : WindowForm) (marked before ids : List EventId) (line : StoryLine) → Contains (lines_from window marked before ids) line
    → (front : List EventId) × (id : EventId) × (back : List EventId) × (ids ≡ front ++ id ∷ back) × (line ≡ line_of window marked (before ++ front) id)
line_at window marked before [] line i = absurd (nothing_in line i)
line_at window marked before (id ∷ ids) line i =
    elim (first_or_rest (line_of window marked before id) (lines_from window marked (before ++ id ∷ []) ids) line i) [
      | inl same ↦ ([], id, ids, refl, sym same ∙ ap (λ (all : List EventId). line_of window marked all id) (sym (append-nil before)))
      | inr rest ↦
          let spot = line_at window marked (before ++ id ∷ []) ids line rest in
          (id ∷ spot.0, spot.1, spot.2, ap (λ more. id ∷ more) spot.3, spot.4 ∙ ap (λ (all : List EventId). line_of window marked all spot.1) (append_assoc before (id ∷ []) spot.0))
    ]

-- a line that reads a variable looks back at its last write among the events before the line
record IsReadAfter (window : WindowForm) (schedule : List EventId) (line : StoryLine) (variable : List ℕ) : Type 0 where
  front : List EventId
  back : List EventId
  parts : schedule ≡ front ++ line.event ∷ back
  place : line.place ≡ length front
  source : line.source ≡ or_beginning (last_where (writes window variable) front)

read_after : (window : WindowForm) (schedule marked : List EventId) (line : StoryLine) (variable : List ℕ) (value : ℤ)
    → Contains (lines_of window schedule marked) line → Reads window line.event variable value → IsReadAfter window schedule line variable
read_after window schedule marked line variable value i reads =
    let spot = line_at window marked [] schedule line i in
    let same : line.event ≡ spot.1 = ap (λ (l : StoryLine). l.event) spot.4 in
    let read : Reads window spot.1 variable value = subst (λ (id : EventId). Reads window id variable value) same reads in
    record {
      front = spot.0;
      back = spot.2;
      parts = spot.3 ∙ ap (λ (id : EventId). spot.0 ++ id ∷ spot.2) (sym same);
      place = ap (λ (l : StoryLine). l.place) spot.4;
      source = ap (λ (l : StoryLine). l.source) spot.4 ∙ ap (source_of_found window spot.0) read;
    }

-- the read finds the last value of its variable
value_found : ReadsFindLastWrites → (window : WindowForm) (schedule : List EventId) (line : StoryLine) (variable : List ℕ) (value : ℤ)
    → IsFeasible window schedule → Reads window line.event variable value → (spot : IsReadAfter window schedule line variable)
    → IsLastValue window (start_state window) spot.front variable value
value_found finds window schedule line variable value feasible reads spot =
    finds window spot.front line.event spot.back variable value (subst (IsFeasible window) spot.parts feasible) reads

pub source_written : ReadsFindLastWrites → (window : WindowForm) (schedule marked : List EventId) (line : StoryLine) (variable : List ℕ) (value : ℤ) (source : EventId)
    → IsFeasible window schedule → Contains (lines_of window schedule marked) line → Reads window line.event variable value
    → line.source ≡ Earlier source → Contains (take line.place schedule) source × Writes window source variable value
source_written finds window schedule marked line variable value source feasible i reads is =
    let spot = read_after window schedule marked line variable value i reads in
    let found : last_where (writes window variable) spot.front ≡ Some source =
    earlier_found (last_where (writes window variable) spot.front) source (sym spot.source ∙ is) in
    let before : take line.place schedule ≡ spot.front =
    ap (λ n. take n schedule) spot.place ∙ ap (take (length spot.front)) spot.parts ∙ take_at spot.front (line.event ∷ spot.back) (length spot.front) refl in
    elim (value_found finds window schedule line variable value feasible reads spot) [
      | inl stays ↦ absurd (none-some source (sym (none_last (writes window variable) spot.front (none_pass window variable spot.front stays.1)) ∙ found))
      | inr written ↦
          let same : written.1 ≡ source = same_Some written.1 source (sym (last_written window spot.front variable value written) ∙ found) in
          let among : Contains spot.front written.1 =
          subst (λ (ids : List EventId). Contains ids written.1) (sym written.3) (contains_middle written.1 written.0 written.2) in (
            subst (λ (ids : List EventId). Contains ids source) (sym before) (subst (Contains spot.front) same among),
            subst (λ (id : EventId). Writes window id variable value) same written.4,
          )
    ]

pub source_begun : ReadsFindLastWrites → (window : WindowForm) (schedule marked : List EventId) (line : StoryLine) (variable : List ℕ) (value : ℤ)
    → (start_state window).values ≡ window.start_values → IsFeasible window schedule → Contains (lines_of window schedule marked) line
    → Reads window line.event variable value → line.source ≡ Beginning → start_value window variable ≡ value
source_begun finds window schedule marked line variable value begins feasible i reads is =
    let spot = read_after window schedule marked line variable value i reads in
    let none : last_where (writes window variable) spot.front ≡ None =
    none_found (last_where (writes window variable) spot.front) (sym spot.source ∙ is) in
    elim (value_found finds window schedule line variable value feasible reads spot) [
      | inl stays ↦ ap (λ values. value_in values variable) (sym begins) ∙ stays.0
      | inr written ↦ absurd (none-some written.1 (sym none ∙ last_written window spot.front variable value written))
    ]

pub source_told : (window : WindowForm) (schedule marked : List EventId) (line : StoryLine) (variable : List ℕ) (value : ℤ)
    → Contains (lines_of window schedule marked) line → Reads window line.event variable value → line.source ≡ Nothing → ⊥
source_told window schedule marked line variable value i reads is =
    let spot = read_after window schedule marked line variable value i reads in
    never_nothing (last_where (writes window variable) spot.front) (sym spot.source ∙ is)
