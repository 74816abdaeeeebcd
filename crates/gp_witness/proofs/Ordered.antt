-- Starts and joins.
use Rattle.std.proofs.Common.{ℕ, ◌≡◌, ap, sym, ◌∙◌, inl, inr, List, true, arith, eqb-true}
use Rattle.std.specs.Prelude.{◌==◌, ◌&&◌, Option, Some}
use Rattle.std.proofs.lemmas.Bool.{and_parts}
use Rattle.gp_trace.specs.declared.event.Event.{Event}
use Rattle.gp_trace.specs.declared.event.Event.TheVariants.{Join}
use Rattle.gp_window.specs.declared.schedule.EventId.{EventId}
use Rattle.gp_window.specs.Events.{event_at, size_of}
use Rattle.gp_window.specs.Starts.{is_among}
use Rattle.gp_window.specs.IdLaws.{contains_means}
use Rattle.gp_window.specs.WindowForm.{WindowForm}
use Rattle.gp_window.specs.Ids.{contains_event}
use Rattle.gp_replay.specs.Step.{count_of, start_state}
use Rattle.gp_replay.specs.Feasible.{IsFeasible}
use Rattle.gp_replay.specs.OrderLaws.{join_finds_ended, started_by_run}
use Rattle.gp_replay.specs.SizeLaws.{event_inside}
use Rattle.gp_replay.specs.StepLaws.{stepped}
use Rattle.gp_witness.specs.Meaning.{IsStartedFor, JoinsHold, StartsHold}
use Rattle.gp_witness.specs.ScheduleTruth.{before_of, schedule_truth}
use Rattle.gp_witness.proofs.Done.{Happened, from_count, happened}
use Rattle.gp_witness.proofs.Placed.{precedes}

-- a thread that is started in the state of an executed event is started for it
started_for : (window : WindowForm) (ids : List EventId) (f : EventId) (thread : ℕ) → contains_event ids f ≡ true → (h : Happened window ids f)
    → is_among h.state.started thread ≡ true → IsStartedFor window (schedule_truth window ids) thread f
started_for window ids f thread is_f h among =
    elim (started_by_run window (start_state window) h.state (before_of ids f) thread h.runs among) [
      | inl at_start ↦ inl at_start
      | inr by ↦ inr (by.0, by.2, precedes window ids by.0 f is_f ((contains_means (before_of ids f) by.0).1 by.1))
    ]

pub starts_hold : (window : WindowForm) (ids : List EventId) → IsFeasible window ids → StartsHold window (schedule_truth window ids)
starts_hold window ids feasible f is_event is_f =
    let h = happened window ids f feasible is_f in
    started_for window ids f f.thread is_f h (stepped window h.state h.middle f h.step).started

pub joins_hold : (window : WindowForm) (ids : List EventId) → IsFeasible window ids → JoinsHold window (schedule_truth window ids)
joins_hold window ids feasible j thread joins is_j =
    let h = happened window ids j feasible is_j in
    let s = stepped window h.state h.middle j h.step in
    let event : Event = s.event in
    let there : event_at window j ≡ Some event = s.there in
    let is : event ≡ Join thread = (let same : ◌≡◌ {A = Option Event} (Some event) (Some (Join thread)) = sym there ∙ joins in cc) in
    let ended = join_finds_ended window h.state event thread is s.allowed in
    let size : ℕ = size_of window thread in
    let tests = and_parts (is_among h.state.started thread) (is_among window.exited thread && size == count_of h.state thread) ended in
    let ends = and_parts (is_among window.exited thread) (size == count_of h.state thread) tests.1 in
    let whole : size ≡ count_of h.state thread = eqb-true size (count_of h.state thread) ends.1 in
    record {
      exits = ends.0;
      whole = λ e is_event own.
          let within = event_inside window e is_event.0 is_event.1 in
          let same : size_of window e.thread ≡ size = ap (λ t. size_of window t) own in
          let counts : count_of h.state e.thread ≡ count_of h.state thread = ap (λ t. count_of h.state t) own in
          precedes window ids e j is_j (from_count window h.state (before_of ids j) e h.runs (omega (arith, whole, same, counts, within)));
      started = started_for window ids j thread is_j h tests.0;
    }
