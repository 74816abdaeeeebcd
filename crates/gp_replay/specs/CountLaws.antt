-- Laws: how the counts of a state go up, so that no event happens twice.
use Rattle.std.proofs.Common.{ℕ, zero, suc, ◌≡◌, ◌≢◌, ◌+◌, ◌<◌, ◌≤◌, ap, sym, ◌∙◌, refl, subst, inl, inr, List, [], ◌∷◌, length, get_or, set, arith, length-set}
use Rattle.std.specs.Prelude.{Option, None, Some, Ok, slice_get, unwrap_or}
use Rattle.std.specs.List.{AllPairs}
use Rattle.std.proofs.lemmas.Option.{slice_get_within}
use Rattle.std.proofs.lemmas.Bool.{cases_eq}
use Rattle.std.proofs.lemmas.List.{get_or-set_same, get_or-set_other}
use Rattle.gp_trace.specs.declared.event.Event.{Event}
use Rattle.gp_window.specs.declared.schedule.EventId.{EventId}
use Rattle.gp_window.specs.WindowForm.{WindowForm}
use Rattle.gp_replay.specs.declared.state.State.{State}
use Rattle.gp_replay.specs.Step.{count_of, next}
use Rattle.gp_replay.specs.Feasible.{Runs}
use Rattle.gp_window.specs.Events.{size_of}
use Rattle.gp_replay.specs.SizeLaws.{event_inside}
use Rattle.gp_replay.specs.StepLaws.{Stepped, stepped}

-- the state counts so many threads as the window has
abbrev pub CountsThreads : WindowForm → State → Type 0
CountsThreads window state = length state.counts ≡ length window.segments

-- what a step says of the counts before it and after it
pub record Counted (window : WindowForm) (before after : List ℕ) (id : EventId) : Type 0 where
  pub place : ℕ
  pub thread : id.thread ≡ suc place
  pub within : place < length window.segments
  pub turn : get_or before place 0 ≡ id.index
  pub inside : id.index < size_of window id.thread
  pub counts : after ≡ set before place (id.index + 1)

-- a segment in which an event is found is one of the segments
within_segments : (segments : List (List Event)) (place index : ℕ) (event : Event) (found : Option (List Event))
    → slice_get segments place ≡ found → slice_get (unwrap_or found []) index ≡ Some event → place < length segments
within_segments segments place index event None is e = cc
within_segments segments place index event (Some segment) is e = slice_get_within segments place segment is

counted_at : (window : WindowForm) (state middle : State) (thread index : ℕ)
    → Stepped window state middle (record { thread = thread; index = index })
    → Counted window state.counts middle.counts (record { thread = thread; index = index })
counted_at window state middle zero index s =
    let there : ◌≡◌ {A = Option Event} None (Some s.event) = s.there in cc
counted_at window state middle (suc place) index s =
    let turn : get_or state.counts place 0 ≡ index = s.turn in
    record {
      place = place;
      thread = refl;
      within = within_segments window.segments place index s.event (slice_get window.segments place) refl s.there;
      turn = turn;
      inside = event_inside window (record { thread = suc place; index = index }) s.event s.there;
      counts = ap (λ (t : State). t.counts) s.gives ∙ ap (λ n. set state.counts place (n + 1)) turn;
    }

-- a step counts its event for its thread
pub step_counts : (window : WindowForm) (state middle : State) (id : EventId)
    → next window state id ≡ Ok middle → Counted window state.counts middle.counts id
step_counts window state middle id e = counted_at window state middle id.thread id.index (stepped window state middle id e)

-- a step keeps how many threads there are
pub step_keeps_threads : (window : WindowForm) (state middle : State) (id : EventId)
    → next window state id ≡ Ok middle → CountsThreads window state → CountsThreads window middle
step_keeps_threads window state middle id e size =
    let c = step_counts window state middle id e in
    ap length c.counts ∙ length-set state.counts c.place (id.index + 1) ∙ size

-- after its step an event is counted
pub step_is_counted : (window : WindowForm) (state middle : State) (id : EventId)
    → CountsThreads window state → next window state id ≡ Ok middle → count_of middle id.thread ≡ id.index + 1
step_is_counted window state middle id size e =
    let c = step_counts window state middle id e in
    let within : c.place < length state.counts = omega (arith, c.within) in
    let P : ℕ → Type 0 = λ thread. count_of middle thread ≡ id.index + 1 in
    subst P (sym c.thread) (ap (λ counts. get_or counts c.place 0) c.counts ∙ get_or-set_same state.counts c.place (id.index + 1) 0 within)

-- a step counts for no other thread
pub step_keeps_others : (window : WindowForm) (state middle : State) (id : EventId) (thread : ℕ)
    → next window state id ≡ Ok middle → (id.thread ≡ thread → ⊥) → count_of middle thread ≡ count_of state thread
step_keeps_others window state middle id zero e apart = refl
step_keeps_others window state middle id (suc other) e apart =
    let c = step_counts window state middle id e in
    let differ : other ≢ c.place = (λ same. apart (c.thread ∙ ap suc (sym same))) in
    ap (λ counts. get_or counts other 0) c.counts ∙ get_or-set_other state.counts c.place other (id.index + 1) 0 differ

-- no count goes down
step_counts_up : (window : WindowForm) (state middle : State) (id : EventId) (thread : ℕ)
    → CountsThreads window state → next window state id ≡ Ok middle → count_of state thread ≤ count_of middle thread
step_counts_up window state middle id thread size e =
    elim (cases_eq id.thread thread) [
      | inl same ↦
          let turn = (stepped window state middle id e).turn in
          let now = step_is_counted window state middle id size e in
          let P : ℕ → Type 0 = λ t. count_of state t ≤ count_of middle t in
          subst P same (omega (arith, turn, now))
      | inr apart ↦ let kept = step_keeps_others window state middle id thread e apart in omega (arith, kept)
    ]

-- an event that happens later is not yet counted
later_not_counted : (window : WindowForm) (state last : State) (ids : List EventId) (j : ℕ) (d : EventId)
    → CountsThreads window state → Runs window state ids last → j < length ids
    → count_of state (get_or ids j d).thread ≤ (get_or ids j d).index
later_not_counted window state last [] j d size r below = absurd (omega arith)
later_not_counted window state last (id ∷ ids) zero d size r below =
    let turn = (stepped window state r.0 id r.1).turn in omega (arith, turn)
later_not_counted window state last (id ∷ ids) (suc j) d size r below =
    let kept = step_keeps_threads window state r.0 id r.1 size in
    let later = later_not_counted window r.0 last ids j d kept r.2 (omega arith) in
    let up = step_counts_up window state r.0 id (get_or ids j d).thread size r.1 in
    omega (arith, later, up)

-- events that happen one after another are all different
pub run_is_distinct : (window : WindowForm) (state last : State) (ids : List EventId)
    → CountsThreads window state → Runs window state ids last → AllPairs (λ earlier later. earlier ≢ later) ids
run_is_distinct window state last [] size r i j d before below e = absurd (omega arith)
run_is_distinct window state last (id ∷ ids) size r zero zero d before below e = absurd (omega arith)
run_is_distinct window state last (id ∷ ids) size r (suc i) zero d before below e = absurd (omega arith)
run_is_distinct window state last (id ∷ ids) size r zero (suc j) d before below e =
    let kept = step_keeps_threads window state r.0 id r.1 size in
    let later = later_not_counted window r.0 last ids j d kept r.2 (omega arith) in
    let counted_now = step_is_counted window state r.0 id size r.1 in
    let P : EventId → Type 0 = λ other. count_of r.0 other.thread ≤ other.index in
    let again : count_of r.0 id.thread ≤ id.index = subst P (sym e) later in
    omega (arith, again, counted_now)
run_is_distinct window state last (id ∷ ids) size r (suc i) (suc j) d before below e =
    let kept = step_keeps_threads window state r.0 id r.1 size in
    run_is_distinct window r.0 last ids kept r.2 i j d (omega arith) (omega arith) e
