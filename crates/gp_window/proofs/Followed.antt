-- Each window of a recording begins with what the window before it leaves.
use Rattle.std.proofs.Common.{◌≡◌, ◌⊎◌, ◌∙◌, refl, ap, sym, subst, inl, inr, Bool, true, ℕ, zero, suc, ◌-◌, ◌≤◌, List, [], ◌∷◌, map, length, arith, eqb-true, eq-eqb}
use Rattle.std.specs.Prelude.{◌↔◌, ◌==◌, ◌||◌, ◌&&◌, nat_le, flat_map, Option, Some, slice_get, unwrap_or}
use Rattle.std.proofs.lemmas.Bool.{and_from, and_parts, cases_Bool, false≢true, leb-true, or_cases, or_left, or_right}
use Rattle.std.proofs.lemmas.List.{length-map}
use Rattle.gp_trace.specs.declared.event.Event.{Event}
use Rattle.gp_trace.specs.declared.event.Event.TheVariants.{Start}
use Rattle.gp_trace.specs.LockUse.{mode_held}
use Rattle.gp_trace.specs.Trace.{LocalTraceForm}
use Rattle.gp_window.specs.declared.schedule.EventId.{EventId}
use Rattle.gp_window.specs.AmongLaws.{among_append, among_kept, among_numbers}
use Rattle.gp_window.specs.Events.{event_at, has_thread, segment_in}
use Rattle.gp_window.specs.Follow.{PassesLocks, PassesOn}
use Rattle.gp_window.specs.Formed.{IsFormed}
use Rattle.gp_window.specs.Holders.{segment_after}
use Rattle.gp_window.specs.RecordingForm.{IsRecording, RecordingForm}
use Rattle.gp_window.specs.Starts.{is_among, is_thread}
use Rattle.gp_window.specs.WindowForm.{numbers_from, started_before, started_by, started_in, started_of, window_of}
use Rattle.gp_window.proofs.Formed.{mode_told, segment_used_well}
use Rattle.gp_window.proofs.GivenValues.{values_follow}
use Rattle.gp_window.proofs.OwnLocks.{held_by}

passes_locks : (r : RecordingForm) (k : ℕ) → IsRecording r → (thread : ℕ) → suc k - 1 ≡ suc (k - 1) → PassesLocks (window_of r k) (window_of r (suc k)) thread
passes_locks r k rules thread on = record {
  held = held_by r.traces (k - 1) thread;
  told = mode_told r k rules thread;
  well = segment_used_well r k rules thread;
  left = λ lock. ap (λ before. mode_held (held_by r.traces before thread) lock) (sym on) ∙ mode_told r (suc k) rules thread lock;
}

-- a thread that an event starts
event_starts : (event : Event) (thread : ℕ) → is_among (started_by event) thread ≡ true → event ≡ Start thread
event_starts (Start other) thread e =
    elim (cases_Bool (other == thread)) [
      | inl same ↦ ap Start (eqb-true other thread same)
      | inr apart ↦ absurd (false≢true (rw apart at e))
    ]
event_starts _ thread e = absurd (false≢true e)

events_start : (events : List Event) (thread : ℕ) → is_among (flat_map started_by events) thread ≡ true → (i : ℕ) × (slice_get events i ≡ Some (Start thread))
events_start [] thread e = absurd (false≢true e)
events_start (event ∷ events) thread e =
    elim (or_cases (is_among (started_by event) thread) (is_among (flat_map started_by events) thread) (sym (among_append (started_by event) (flat_map started_by events) thread) ∙ e)) [
      | inl here ↦ (0, ap Some (event_starts event thread here))
      | inr there ↦ let rest = events_start events thread there in (suc rest.0, rest.1)
    ]

window_starts : (before : ℕ) (traces : List LocalTraceForm) (thread : ℕ) → is_among (started_in before traces) thread ≡ true
    → (place i : ℕ) × (slice_get (unwrap_or (slice_get (map (segment_after before) traces) place) []) i ≡ Some (Start thread))
window_starts before [] thread e = absurd (false≢true e)
window_starts before (trace ∷ traces) thread e =
    elim (or_cases (is_among (flat_map started_by (segment_after before trace)) thread) (is_among (started_in before traces) thread)
    (sym (among_append (flat_map started_by (segment_after before trace)) (started_in before traces) thread) ∙ e)) [
      | inl here ↦ let found = events_start (segment_after before trace) thread here in (0, found.0, found.1)
      | inr there ↦ let rest = window_starts before traces thread there in (suc rest.0, rest.1, rest.2)
    ]

start_among : (event : Event) (thread : ℕ) → ◌≡◌ {A = Option Event} (Some event) (Some (Start thread)) → is_among (started_by event) thread ≡ true
start_among event thread e =
    let is : event ≡ Start thread = cc in
    let same : (thread == thread) ≡ true = eq-eqb thread thread refl in
    subst (λ e. is_among (started_by e) thread ≡ true) (sym is) (rw same refl)

start_in_events : (events : List Event) (i thread : ℕ) → slice_get events i ≡ Some (Start thread) → is_among (flat_map started_by events) thread ≡ true
start_in_events [] i thread e = cc
start_in_events (event ∷ events) zero thread e =
    among_append (started_by event) (flat_map started_by events) thread ∙ or_left _ _ (start_among event thread e)
start_in_events (event ∷ events) (suc i) thread e =
    among_append (started_by event) (flat_map started_by events) thread ∙ or_right _ _ (start_in_events events i thread e)

start_in_window : (before : ℕ) (traces : List LocalTraceForm) (place i thread : ℕ)
    → slice_get (unwrap_or (slice_get (map (segment_after before) traces) place) []) i ≡ Some (Start thread) → is_among (started_in before traces) thread ≡ true
start_in_window before [] place i thread e = cc
start_in_window before (trace ∷ traces) zero i thread e =
    among_append (flat_map started_by (segment_after before trace)) (started_in before traces) thread ∙ or_left _ _ (start_in_events (segment_after before trace) i thread e)
start_in_window before (trace ∷ traces) (suc place) i thread e =
    among_append (flat_map started_by (segment_after before trace)) (started_in before traces) thread ∙ or_right _ _ (start_in_window before traces place i thread e)

start_by_id : (before : ℕ) (traces : List LocalTraceForm) (doer i thread : ℕ) → slice_get (segment_in (map (segment_after before) traces) doer) i ≡ Some (Start thread)
    → is_among (started_in before traces) thread ≡ true
start_by_id before traces zero i thread e = cc
start_by_id before traces (suc place) i thread e = start_in_window before traces place i thread e

thread_bounds : (threads thread : ℕ) → is_thread threads thread ≡ true → (1 ≤ thread) × (thread ≤ threads)
thread_bounds threads thread e =
    let parts = and_parts (nat_le 1 thread) (nat_le thread threads) e in (leb-true 1 thread parts.0, leb-true thread threads parts.1)

-- whether a thread is a root, or was started in so many first segments
abbrev was_started : RecordingForm → ℕ → ℕ → Bool
was_started r before t = is_among r.manifest.roots t || is_among (started_before before r.traces) t

started_follow : (r : RecordingForm) (k : ℕ) → IsRecording r → IsFormed (window_of r k) → suc k - 1 ≡ suc (k - 1) → (thread : ℕ)
    → (is_among (window_of r (suc k)).started thread ≡ true)
    ↔ ((is_among (window_of r k).started thread ≡ true) ⊎ ((id : EventId) × (event_at (window_of r k) id ≡ Some (Start thread))))
started_follow r k rules formed on thread = (forth, back)
  where
    kept : (before : ℕ) → is_among (started_of r before) thread ≡ (was_started r before thread && is_among (numbers_from 1 r.manifest.threads) thread)
    kept before = among_kept (was_started r before) (numbers_from 1 r.manifest.threads) thread

    now : is_among (started_before (suc k - 1) r.traces) thread ≡ (is_among (started_before (k - 1) r.traces) thread || is_among (started_in (k - 1) r.traces) thread)
    now = ap (λ before. is_among (started_before before r.traces) thread) on ∙ among_append (started_before (k - 1) r.traces) (started_in (k - 1) r.traces) thread

    forth : is_among (started_of r (suc k - 1)) thread ≡ true
        → (is_among (started_of r (k - 1)) thread ≡ true) ⊎ ((id : EventId) × (event_at (window_of r k) id ≡ Some (Start thread)))
    forth e =
        let parts = and_parts (was_started r (suc k - 1) thread) (is_among (numbers_from 1 r.manifest.threads) thread) (sym (kept (suc k - 1)) ∙ e) in
        elim (or_cases (is_among r.manifest.roots thread) (is_among (started_before (suc k - 1) r.traces) thread) parts.0) [
          | inl root ↦ inl (kept (k - 1) ∙ and_from _ _ (or_left _ _ root) parts.1)
          | inr started ↦ elim (or_cases (is_among (started_before (k - 1) r.traces) thread) (is_among (started_in (k - 1) r.traces) thread) (sym now ∙ started)) [
            | inl earlier ↦ inl (kept (k - 1) ∙ and_from _ _ (or_right _ _ earlier) parts.1)
            | inr here ↦ (let found = window_starts (k - 1) r.traces thread here in inr (record { thread = suc found.0; index = found.1 }, found.2))
          ]
        ]

    numbered : has_thread (window_of r k) thread ≡ true → is_among (numbers_from 1 r.manifest.threads) thread ≡ true
    numbered there =
        let size : length (window_of r k).segments ≡ r.manifest.threads = length-map r.traces (segment_after (k - 1)) ∙ rules.count in
        let bounds = thread_bounds r.manifest.threads thread (subst (λ n. is_thread n thread ≡ true) size there) in
        let high = bounds.1 in
        (among_numbers 1 r.manifest.threads thread).1 (bounds.0, omega (arith, high))

    back : (is_among (started_of r (k - 1)) thread ≡ true) ⊎ ((id : EventId) × (event_at (window_of r k) id ≡ Some (Start thread)))
        → is_among (started_of r (suc k - 1)) thread ≡ true
    back (inl earlier) =
        let parts = and_parts (was_started r (k - 1) thread) (is_among (numbers_from 1 r.manifest.threads) thread) (sym (kept (k - 1)) ∙ earlier) in
        kept (suc k - 1) ∙ and_from _ _ (elim (or_cases (is_among r.manifest.roots thread) (is_among (started_before (k - 1) r.traces) thread) parts.0) [
          | inl root ↦ or_left _ _ root
          | inr started ↦ or_right _ _ (now ∙ or_left _ _ started)
        ]) parts.1
    back (inr by) =
        let here : is_among (started_in (k - 1) r.traces) thread ≡ true = start_by_id (k - 1) r.traces by.0.thread by.0.index thread by.1 in
        kept (suc k - 1) ∙ and_from _ _ (or_right _ _ (now ∙ or_right _ _ here)) (numbered (formed.starts by.0 thread by.1).0)

-- a window of a recording passes on to the next one
pub window_passes_on : (r : RecordingForm) (k : ℕ) → IsRecording r → IsFormed (window_of r k) → 1 ≤ k → PassesOn r.manifest.values (window_of r k) (window_of r (suc k))
window_passes_on r k rules formed first =
    let on : suc k - 1 ≡ suc (k - 1) = omega (arith, first) in
    record {
      threads = length-map r.traces (segment_after (suc k - 1)) ∙ sym (length-map r.traces (segment_after (k - 1)));
      locks = λ thread. passes_locks r k rules thread on;
      started = started_follow r k rules formed on;
      values = values_follow r.manifest k rules.manifest.ordered;
    }
