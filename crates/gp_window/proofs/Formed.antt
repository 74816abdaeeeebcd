-- Each window is formed.
use Rattle.std.proofs.Common.{◌≡◌, ◌⊎◌, ◌∙◌, refl, ap, sym, subst, inl, inr, Bool, true, false, cond, ℕ, zero, suc, ◌+◌, ◌-◌, ◌<◌, ◌≤◌, ◌^◌, List, [], ◌∷◌, map, length, arith, eqb-true}
use Rattle.std.specs.Prelude.{◌==◌, ◌||◌, filter, if◌then◌else◌, Option, Some, None, Result, Ok, Err, is_ok, slice_get, unwrap_or}
use Rattle.std.specs.List.{AllByRecursion}
use Rattle.std.proofs.lemmas.Bool.{and_parts, cases_Bool, cases_lt, eq-eqb, false≢true, false_from_ne_true, true≢false}
use Rattle.std.proofs.lemmas.Bool.Decides.{nat_tests}
use Rattle.std.proofs.lemmas.List.{length-map}
use Rattle.std.proofs.lemmas.List.Elements.{recursion_from_All}
use Rattle.gp_trace.specs.declared.event.Event.{Event}
use Rattle.gp_trace.specs.declared.event.Event.TheVariants.{Start, Join}
use Rattle.gp_trace.specs.declared.fault.TraceFault.{TraceFault}
use Rattle.gp_trace.specs.declared.fault.TraceFault.TheVariants.{NameSelf}
use Rattle.gp_trace.specs.declared.rules.Standing.{Standing}
use Rattle.gp_trace.specs.LockUse.{HeldLocks, LocksAreUsedWell, mode_held}
use Rattle.gp_trace.specs.Rules.{after, AreWellFormed, at_first, fault_of}
use Rattle.gp_trace.specs.RulesLaws.{used_well}
use Rattle.gp_trace.specs.Trace.{in_order, IsEvent, IsLocalTrace, LocalTraceForm}
use Rattle.gp_window.specs.declared.schedule.EventId.{EventId}
use Rattle.gp_window.specs.AmongLaws.{among_kept, among_numbers}
use Rattle.gp_window.specs.Contested.{first_contested}
use Rattle.gp_window.specs.Events.{event_at, has_thread, segment_in, segment_of}
use Rattle.gp_window.specs.Formed.{IsFormed, mode_at_start, stands_at, UsesLocksWell}
use Rattle.gp_window.specs.FormedLaws.{mode_by}
use Rattle.gp_window.specs.Holders.{Holdings, held_over, segment_after}
use Rattle.gp_window.specs.HoldersLaws.{stands_from}
use Rattle.gp_window.specs.RecordingForm.{AreNumbered, IsRecording, RecordingForm}
use Rattle.gp_window.specs.Starts.{after_traces, is_among, is_thread}
use Rattle.gp_window.specs.WindowForm.{exited_of, has_exited, IsWindow, numbers_from, started_before, started_of, window_of, WindowForm}
use Rattle.gp_window.proofs.Happening.{in_window, OfEach, segments_short}
use Rattle.gp_window.proofs.HeldRising.{mode_among, over_rises, readers_rise}
use Rattle.gp_window.proofs.OwnLocks.{held_by, none_by, over_tells, segment_well}
use Rattle.gp_base.specs.OrderLaws.{each}
use Rattle.gp_window.proofs.Rising.{start_values_rise}
use Rattle.gp_window.proofs.StartCounts.{in_all, one, started_now, started_once}
use Rattle.gp_window.proofs.Uncontested.{holder_alone, holders_rise, uncontested}
use Rattle.gp_window.proofs.Walked.{IsKnown, traces_walk}

-- no start and no join names the thread that does it
abbrev IsOther : ℕ → Event → Type 0
IsOther thread (Start other) = other ≡ thread → ⊥
IsOther thread (Join other) = other ≡ thread → ⊥
IsOther thread _ = Unit {0}

no_fault : (other thread : ℕ) → ◌≡◌ {A = Option (ℕ → TraceFault)} (if other == thread then Some NameSelf else None) None → other ≡ thread → ⊥
no_fault other thread e same =
    let test : (other == thread) ≡ true = eq-eqb other thread same in
    let bad : ◌≡◌ {A = Option (ℕ → TraceFault)} (Some NameSelf) None = rw test at e in
    cc

names_other : (thread : ℕ) (s : Standing) (event : Event) → fault_of thread s event ≡ None → IsOther thread event
names_other thread s (Start other) e = no_fault other thread e
names_other thread s (Join other) e = no_fault other thread e
names_other thread s _ e = tt

all_other : (thread : ℕ) (s : Standing) (events : List Event) → AreWellFormed thread s events → AllByRecursion (IsOther thread) events
all_other thread s [] formed = tt
all_other thread s (event ∷ events) formed = (names_other thread s event formed.0, all_other thread (after s event) events formed.1)

is_ok_gives : {A E : Type 0} (result : Result A E) → is_ok result ≡ true → (a : A) × (result ≡ Ok a)
is_ok_gives (Ok a) e = (a, refl)
is_ok_gives (Err fault) e = cc

one_small : (b : Bool) → one b ≤ 1
one_small true = omega arith
one_small false = omega arith

-- a number from 1 to the last is that of a thread
is_thread_from : (threads thread : ℕ) → 1 ≤ thread → thread ≤ threads → is_thread threads thread ≡ true
is_thread_from threads thread low high = grind (arith, nat_tests)

exited_at : (k n : ℕ) (trace : LocalTraceForm) (traces : List LocalTraceForm) (thread : ℕ) (b : Bool) → trace.thread ≡ n
    → (is_among (exited_of k traces) thread ≡ true → (n + 1 ≤ thread) × (thread < n + 1 + length traces))
    → is_among (map (λ (t : LocalTraceForm). t.thread) (cond b (trace ∷ filter (λ t. has_exited k t.exit_in) traces) (filter (λ t. has_exited k t.exit_in) traces))) thread ≡ true
    → (n ≤ thread) × (thread < n + length (trace ∷ traces))
exited_at k n trace traces thread false number more e = let rest = more e in (omega (arith, rest.0), omega (arith, rest.1))
exited_at k n trace traces thread true number more e =
    elim (cases_Bool (trace.thread == thread)) [
      | inl same ↦ let is : trace.thread ≡ thread = eqb-true trace.thread thread same in (omega (arith, is, number), omega (arith, is, number))
      | inr apart ↦ let rest = more (rw apart at e) in (omega (arith, rest.0), omega (arith, rest.1))
    ]

-- a thread that has exited is that of one of the traces
among_exited : (epochs n k : ℕ) (traces : List LocalTraceForm) (thread : ℕ) → AreNumbered epochs n traces → is_among (exited_of k traces) thread ≡ true
    → (n ≤ thread) × (thread < n + length traces)
among_exited epochs n k [] thread numbered e = absurd (false≢true e)
among_exited epochs n k (trace ∷ traces) thread numbered e =
    exited_at k n trace traces thread (has_exited k trace.exit_in) numbered.0 (among_exited epochs (n + 1) k traces thread numbered.2) e

past_all : (segments : List (List Event)) (place : ℕ) → length segments ≤ place → unwrap_or (slice_get segments place) [] ≡ []
past_all [] place past = refl
past_all (segment ∷ segments) zero past = absurd (omega (arith, past))
past_all (segment ∷ segments) (suc place) past = past_all segments place (omega (arith, past))

-- a number is that of a thread, or no segment is that of the number
there_or_empty : (threads thread : ℕ)
    → ((1 ≤ thread) × (thread ≤ threads)) ⊎ ((segments : List (List Event)) → length segments ≡ threads → segment_in segments thread ≡ [])
there_or_empty threads zero = inr (λ segments size. refl)
there_or_empty threads (suc place) =
    elim (cases_lt place threads) [
      | inl below ↦ inl (omega arith, omega (arith, below))
      | inr past ↦ inr (λ segments size. past_all segments place (omega (arith, past, size)))
    ]

no_mode : (alone reads : Bool) → mode_by alone reads ≡ None → (alone ≡ false) × (reads ≡ false)
no_mode true reads e = cc
no_mode false true e = cc
no_mode false false e = (refl, refl)

-- a thread that is started when a window begins is a root or was started before, and is one of the threads
started_kept : (r : RecordingForm) (before thread : ℕ) → is_among (started_of r before) thread ≡ true
    → ((is_among r.manifest.roots thread || is_among (started_before before r.traces) thread) ≡ true) × (is_among (numbers_from 1 r.manifest.threads) thread ≡ true)
started_kept r before thread among =
    and_parts (is_among r.manifest.roots thread || is_among (started_before before r.traces) thread) (is_among (numbers_from 1 r.manifest.threads) thread)
    (sym (among_kept (λ t. is_among r.manifest.roots t || is_among (started_before before r.traces) t) (numbers_from 1 r.manifest.threads) thread) ∙ among)

-- how a thread holds a lock by its own events before a window, it holds it when the window begins
pub mode_told : (r : RecordingForm) (k : ℕ) → IsRecording r → (thread : ℕ) (lock : List ℕ)
    → mode_held (held_by r.traces (k - 1) thread) lock ≡ mode_at_start (window_of r k) thread lock
mode_told r k rules thread lock =
    sym (over_tells r.manifest.epochs (k - 1) thread r.traces rules.numbered lock)
    ∙ mode_among (held_over r.traces (k - 1)) (lock, thread) (over_rises r.traces (k - 1))

-- and with these locks its segment uses locks well
pub segment_used_well : (r : RecordingForm) (k : ℕ) → IsRecording r → (thread : ℕ)
    → LocksAreUsedWell (held_by r.traces (k - 1) thread) (segment_of (window_of r k) thread)
segment_used_well r k rules thread =
    segment_well (k - 1) thread r.traces
    (each IsLocalTrace (λ trace. LocksAreUsedWell [] (in_order trace.segments))
    (λ trace is. used_well trace.thread at_first (in_order trace.segments) is.formed) r.traces (recursion_from_All IsLocalTrace r.traces rules.traces))

module _ (r : RecordingForm) (k : ℕ) (rules : IsRecording r) (first : 1 ≤ k) (last : k ≤ r.manifest.epochs) where
  -- the window, and the segments of each trace before its own
  abbrev window : WindowForm
  window = window_of r k

  abbrev held : Holdings
  held = held_over r.traces (k - 1)

  -- each trace keeps the rules
  locals : AllByRecursion IsLocalTrace r.traces
  locals = recursion_from_All IsLocalTrace r.traces rules.traces

  same_size : length window.segments ≡ length r.traces
  same_size = length-map r.traces (segment_after (k - 1))

  walk : (more : List ℕ) × (after_traces r.manifest.threads r.manifest.roots [] r.traces ≡ Ok more)
  walk = is_ok_gives (after_traces r.manifest.threads r.manifest.roots [] r.traces) rules.starts

  all_known : OfEach (λ thread event. IsKnown r.manifest.threads r.manifest.roots event) r.traces
  all_known = (traces_walk r.manifest.threads r.manifest.roots [] walk.0 r.traces walk.1).0

  at_most_once : (thread : ℕ) → in_all thread r.traces ≤ 1
  at_most_once thread =
      let counts : 0 + in_all thread r.traces ≤ one (is_among walk.0 thread) = (traces_walk r.manifest.threads r.manifest.roots [] walk.0 r.traces walk.1).1 thread in
      let small = one_small (is_among walk.0 thread) in
      omega (arith, counts, small)

  there_from : (thread : ℕ) → 1 ≤ thread → thread ≤ length r.traces → has_thread window thread ≡ true
  there_from thread low high = subst (λ n. is_thread n thread ≡ true) (sym same_size) (is_thread_from (length r.traces) thread low high)

  known_there : (thread : ℕ) → is_thread r.manifest.threads thread ≡ true → has_thread window thread ≡ true
  known_there thread known = subst (λ n. is_thread n thread ≡ true) (sym (same_size ∙ rules.count)) known

  -- an event of the window is of its trace
  known_at : (id : EventId) (event : Event) → event_at window id ≡ Some event → IsKnown r.manifest.threads r.manifest.roots event
  known_at id event e =
      in_window (λ thread event. IsKnown r.manifest.threads r.manifest.roots event) r.manifest.epochs (k - 1) r.traces id event rules.numbered all_known e

  other_at : (id : EventId) (event : Event) → event_at window id ≡ Some event → IsOther id.thread event
  other_at id event e =
      in_window IsOther r.manifest.epochs (k - 1) r.traces id event rules.numbered
      (each IsLocalTrace (λ trace. AllByRecursion (IsOther trace.thread) (in_order trace.segments))
      (λ trace is. all_other trace.thread at_first (in_order trace.segments) is.formed) r.traces locals) e

  event_kept : (id : EventId) (event : Event) → event_at window id ≡ Some event → IsEvent event
  event_kept id event e =
      in_window (λ thread event. IsEvent event) r.manifest.epochs (k - 1) r.traces id event rules.numbered
      (each IsLocalTrace (λ trace. AllByRecursion IsEvent (in_order trace.segments)) (λ trace is. is.events) r.traces locals) e

  start_kept : (id : EventId) (thread : ℕ) → event_at window id ≡ Some (Start thread)
      → (has_thread window thread ≡ true) × (thread ≡ id.thread → ⊥) × (is_among window.started thread ≡ false)
  start_kept id thread e =
      let known = known_at id (Start thread) e in (
        known_there thread known.0,
        other_at id (Start thread) e,
        false_from_ne_true _ (λ among.
            let was : is_among (started_before (k - 1) r.traces) thread ≡ true = second_holds (is_among r.manifest.roots thread) _ (started_kept r (k - 1) thread among).0 known.1 in
            started_now thread (k - 1) r.traces id (at_most_once thread) e was),
      )
    where
      second_holds : (a b : Bool) → (a || b) ≡ true → a ≡ false → b ≡ true
      second_holds true b e none = absurd (true≢false none)
      second_holds false b e none = e

  start_once : (one other : EventId) (thread : ℕ) → event_at window one ≡ Some (Start thread) → event_at window other ≡ Some (Start thread) → one ≡ other
  start_once one other thread first second = started_once thread (k - 1) r.traces one other (at_most_once thread) first second

  join_kept : (id : EventId) (thread : ℕ) → event_at window id ≡ Some (Join thread) → (has_thread window thread ≡ true) × (thread ≡ id.thread → ⊥)
  join_kept id thread e = (known_there thread (known_at id (Join thread) e), other_at id (Join thread) e)

  started_there : (thread : ℕ) → is_among window.started thread ≡ true → has_thread window thread ≡ true
  started_there thread among =
      let inside = (among_numbers 1 r.manifest.threads thread).0 (started_kept r (k - 1) thread among).1 in
      let all = rules.count in
      there_from thread inside.0 (let high = inside.1 in omega (arith, high, all))

  exited_there : (thread : ℕ) → is_among window.exited thread ≡ true → has_thread window thread ≡ true
  exited_there thread among =
      let inside = among_exited r.manifest.epochs 1 k r.traces thread rules.numbered among in
      there_from thread inside.0 (let high = inside.1 in omega (arith, high))

  no_contest : first_contested held ≡ None
  no_contest = uncontested r.traces r.manifest.epochs (k - 1) rules.holders (omega (arith, first, last))

  thread_uses_well : (thread : ℕ) → UsesLocksWell window thread
  thread_uses_well thread = record {
    held = held_by r.traces (k - 1) thread;
    told = mode_told r k rules thread;
    well = segment_used_well r k rules thread;
  }

  -- a thread that holds a lock in some way is there
  mode_there : (lock : List ℕ) (thread : ℕ)
      → (stands_at window.holders lock thread ≡ false → stands_at window.readers lock thread ≡ false → ⊥) → has_thread window thread ≡ true
  mode_there lock thread some =
      elim (there_or_empty (length r.traces) thread) [
        | inl inside ↦ there_from thread inside.0 inside.1
        | inr empty ↦
            let none : held_by r.traces (k - 1) thread ≡ [] =
            none_by (k - 1) thread r.traces (λ j. empty (map (segment_after j) r.traces) (length-map r.traces (segment_after j))) in
            let mode : mode_at_start window thread lock ≡ None = sym (mode_told r k rules thread lock) ∙ ap (λ (own : HeldLocks). mode_held own lock) none in
            let ways = no_mode (stands_at window.holders lock thread) (stands_at window.readers lock thread) mode in
            absurd (some ways.0 ways.1)
      ]

  -- the window is formed
  pub formed : IsFormed window
  formed = record {
    values = start_values_rise r.manifest.values k;
    holders = holders_rise held no_contest (over_rises r.traces (k - 1));
    readers = readers_rise held (over_rises r.traces (k - 1));
    alone = λ lock one other holds reads.
        holder_alone held no_contest (over_rises r.traces (k - 1)) lock one other (stands_from window.holders lock one holds) (stands_from window.readers lock other reads);
    locks = thread_uses_well;
    starts = start_kept;
    once = start_once;
    joins = join_kept;
    started = started_there;
    exited = exited_there;
    held = λ lock thread holds. mode_there lock thread (λ none _. true≢false (sym (stands_from window.holders lock thread holds) ∙ none));
    read = λ lock thread reads. mode_there lock thread (λ _ none. true≢false (sym (stands_from window.readers lock thread reads) ∙ none));
    events = event_kept;
    threads = (let all = same_size ∙ rules.count in let most = rules.manifest.threads.1 in let some = rules.manifest.threads.0 in (omega (arith, all, some), omega (arith, all, most)));
    few = λ thread. segments_short (k - 1) (2 ^ 32) thread r.traces (omega arith)
        (each IsLocalTrace (λ trace. length (in_order trace.segments) < 2 ^ 32) (λ trace is. is.few) r.traces locals);
  }

-- each window is one of a recording, and so it is formed
pub window_is_formed : (window : WindowForm) → IsWindow window → IsFormed window
window_is_formed window w = subst IsFormed (sym w.is) (formed w.recording window.number w.rules w.first w.last)
