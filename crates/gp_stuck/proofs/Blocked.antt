-- Where each event of a cycle is its thread's next one, the events block one another.
use Rattle.std.proofs.Common.{ℕ, ◌≡◌, ◌<◌, ◌⊎◌, ap, sym, ◌∙◌, refl, subst, inl, inr, List, [], ◌∷◌, true, arith, ltb-true}
use Rattle.std.specs.Prelude.{Option, Some, None, Err, ◌==◌, ◌&&◌, is_some, nat_lt, nat_le, length}
use Rattle.std.specs.List.{list_all}
use Rattle.std.proofs.lemmas.Bool.{and_parts, cases_Bool, eq-eqb, or_cases, or_left, or_right, true≢false}
use Rattle.gp_trace.specs.declared.event.Event.{Event}
use Rattle.gp_trace.specs.declared.event.Event.TheVariants.{Read, Join}
use Rattle.gp_trace.specs.declared.lock_use.LockMode.{LockMode}
use Rattle.gp_trace.specs.declared.lock_use.LockMode.TheVariants.{Exclusive, Shared}
use Rattle.gp_trace.specs.declared.lock_use.LockUse.{LockUse}
use Rattle.gp_trace.specs.declared.lock_use.LockUse.TheVariants.{Take, GiveBack}
use Rattle.gp_trace.specs.LockUse.{lock_use_of}
use Rattle.gp_window.specs.declared.schedule.EventId.{EventId}
use Rattle.gp_window.specs.Events.{event_at}
use Rattle.gp_window.specs.Starts.{is_among}
use Rattle.gp_window.specs.WindowForm.{IsWindow, WindowForm}
use Rattle.gp_instance.specs.Pairs.{all_pairs}
use Rattle.gp_replay.specs.declared.rule.Rule.TheVariants.{LockHeld}
use Rattle.gp_replay.specs.declared.state.State.{State}
use Rattle.gp_replay.specs.Feasible.{Runs}
use Rattle.gp_replay.specs.HoldLaws.{IsHeldBy}
use Rattle.gp_replay.specs.LockUses.{use_at, use_of}
use Rattle.gp_replay.specs.Order.{ThreadsAreStarted}
use Rattle.gp_replay.specs.ReaderLaws.{no_reader}
use Rattle.gp_replay.specs.Readers.{has_reader, is_reader}
use Rattle.gp_replay.specs.Step.{allowed_in, allowed_use, count_of, holder_of, is_held_against, next, start_state}
use Rattle.gp_replay.specs.Told.{HoldsAreTraced, next_of}
use Rattle.gp_constraint.specs.PointLaws.{IsEventOf}
use Rattle.gp_constraint.specs.Sections.{exclude}
use Rattle.gp_stuck.specs.Cycle.{are_apart, is_cycle, keeps_out, may_be_next, waits_around, waits_by, waits_for}
use Rattle.gp_window.specs.Modes.{mode_before}
use Rattle.gp_stuck.specs.Laws.{CyclesBlock}
use Rattle.gp_stuck.specs.Stuck.{AreBlocked, AreNext, BlockAround, IsBlocked}

-- each thread that has done something is started, as are those that were at the beginning, and what a thread holds by its
-- own trace it holds in the state
pub record Tells (window : WindowForm) (state : State) : Type 0 where
  pub started : (thread : ℕ) → (is_among window.started thread ≡ true) ⊎ (0 < count_of state thread) → is_among state.started thread ≡ true
  pub held : (thread : ℕ) (lock : List ℕ) (mode : LockMode) → mode_before window (next_of state thread) lock ≡ Some mode → IsHeldBy state mode lock thread

-- so it is after each schedule that can happen
tells_run : HoldsAreTraced → ThreadsAreStarted → (window : WindowForm) (last : State) (ids : List EventId) → IsWindow window
    → Runs window (start_state window) ids last → Tells window last
tells_run traced started window last ids is r = record {
  started = λ thread why.
      elim why [
        | inl among ↦ (started.exactly window ids last r thread).1 (inl among)
        | inr some ↦ started.doers window ids last r thread some
      ];
  held = λ thread lock mode e. (traced window ids last is r thread lock mode).1 e;
}

-- what a lock is held in that is kept out
pub kept_from : (mode : LockMode) (held : Option LockMode) → keeps_out mode held ≡ true → (how : LockMode) × (held ≡ Some how) × (exclude how mode ≡ true)
kept_from mode (Some how) e = (how, refl, e)
kept_from mode None e = cc

-- what waits takes a lock, and the other thread holds it against that
pub record WaitsFor (window : WindowForm) (lock_use : Option LockUse) (other : EventId) : Type 0 where
  pub mode : LockMode
  pub lock : List ℕ
  pub takes : lock_use ≡ Some (Take mode lock)
  pub held : LockMode
  pub holds : mode_before window other lock ≡ Some held
  pub against : exclude held mode ≡ true

waits_told : (window : WindowForm) (lock_use : Option LockUse) (other : EventId) → waits_by window lock_use other ≡ true → WaitsFor window lock_use other
waits_told window (Some (Take mode lock)) other e =
    let kept = kept_from mode (mode_before window other lock) e in
    record { mode = mode; lock = lock; takes = refl; held = kept.0; holds = kept.1; against = kept.2 }
waits_told window (Some (GiveBack mode lock)) other e = cc
waits_told window None other e = cc

-- an event that takes a lock is one of the window
used_event : (found : Option Event) (mode : LockMode) (lock : List ℕ) → use_of found ≡ Some (Take mode lock)
    → (event : Event) × (found ≡ Some event) × (lock_use_of event ≡ Some (Take mode lock))
used_event None mode lock e = cc
used_event (Some event) mode lock e = (event, refl, e)

pub waiting_event : (window : WindowForm) (one other : EventId) → waits_for window one other ≡ true → IsEventOf window one
waiting_event window one other e =
    let w = waits_told window (use_at window one) other e in
    let used = used_event (event_at window one) w.mode w.lock w.takes in
    (used.0, used.1)

-- a lock with a reader has one
some_reads : (readers : List (List ℕ × ℕ)) (lock : List ℕ) (thread : ℕ) → is_reader readers lock thread ≡ true → has_reader readers lock ≡ true
some_reads readers lock thread reads =
    elim (cases_Bool (has_reader readers lock)) [
      | inl has ↦ has
      | inr none ↦ absurd (true≢false (sym reads ∙ no_reader readers lock thread none))
    ]

-- a lock that is held so cannot be taken in this way
held_against : (state : State) (held mode : LockMode) (lock : List ℕ) (thread : ℕ) → IsHeldBy state held lock thread → exclude held mode ≡ true
    → is_held_against state mode lock ≡ true
held_against state Exclusive Exclusive lock thread holds e =
    or_left (is_some (holder_of state lock)) (has_reader state.readers lock) (ap (λ (h : Option ℕ). is_some h) holds)
held_against state Exclusive Shared lock thread holds e = ap (λ (h : Option ℕ). is_some h) holds
held_against state Shared Exclusive lock thread holds e =
    or_right (is_some (holder_of state lock)) (has_reader state.readers lock) (some_reads state.readers lock thread holds)
held_against state Shared Shared lock thread holds e = cc

-- what an event may do that takes a lock is what its use may do
use_decides : (window : WindowForm) (state : State) (event : Event) (mode : LockMode) (lock : List ℕ) → lock_use_of event ≡ Some (Take mode lock)
    → allowed_in window state event ≡ allowed_use state (lock_use_of event)
use_decides window state (Read variable value) mode lock e = cc
use_decides window state (Join thread) mode lock e = cc
use_decides window state event mode lock e = refl

-- the step is not defined where its lock is held against it
step_stops : (window : WindowForm) (state : State) (id : EventId) (event : Event) (mode : LockMode) (lock : List ℕ) → event_at window id ≡ Some event
    → lock_use_of event ≡ Some (Take mode lock) → count_of state id.thread ≡ id.index → is_among state.started id.thread ≡ true
    → is_held_against state mode lock ≡ true → next window state id ≡ Err LockHeld
step_stops window state id event mode lock there takes turn started held =
    let due : (count_of state id.thread == id.index) ≡ true = eq-eqb (count_of state id.thread) id.index turn in
    let stopped : allowed_use state (Some (Take mode lock)) ≡ Err LockHeld = rw held refl in
    let refused : allowed_in window state event ≡ Err LockHeld =
    use_decides window state event mode lock takes ∙ ap (allowed_use state) takes ∙ stopped in
    rw there (rw due (rw started (rw refused refl)))

-- an event that can be its thread's next one, and is, is of a started thread
is_started : (window : WindowForm) (state : State) (id : EventId) → Tells window state → count_of state id.thread ≡ id.index → may_be_next window id ≡ true
    → is_among state.started id.thread ≡ true
is_started window state id tells turn may =
    elim (or_cases (nat_lt 0 id.index) (is_among window.started id.thread) may) [
      | inl later ↦ (let some = ltb-true 0 id.index later in tells.started id.thread (inr (omega (arith, some, turn))))
      | inr among ↦ tells.started id.thread (inl among)
    ]

-- an event that waits for another is blocked, where both are next
blocked : (window : WindowForm) (state : State) (one other : EventId) → Tells window state → count_of state one.thread ≡ one.index
    → count_of state other.thread ≡ other.index → may_be_next window one ≡ true → waits_for window one other ≡ true → IsBlocked window state one other
blocked window state one other tells turn next_turn may waits =
    let w = waits_told window (use_at window one) other waits in
    let used = used_event (event_at window one) w.mode w.lock w.takes in
    let started = is_started window state one tells turn may in
    let holds : IsHeldBy state w.held w.lock other.thread =
    tells.held other.thread w.lock w.held (subst (λ n. mode_before window (record { thread = other.thread; index = n }) w.lock ≡ Some w.held) (sym next_turn) w.holds) in
    record {
      turn = turn;
      started = started;
      stops = step_stops window state one used.0 w.mode w.lock used.1 used.2 turn started (held_against state w.held w.mode w.lock other.thread holds w.against);
      lock = w.lock;
      mode = w.mode;
      takes = w.takes;
      held = w.held;
      holds = holds;
      against = w.against;
    }

-- all of them
all_blocked : (window : WindowForm) (state : State) (first : EventId) (ids : List EventId) → Tells window state → count_of state first.thread ≡ first.index
    → AreNext state ids → list_all (may_be_next window) ids ≡ true → waits_around window first ids ≡ true → AreBlocked window state first ids
all_blocked window state first [] tells turn turns may waits = tt
all_blocked window state first (last ∷ []) tells turn turns may waits =
    let can = and_parts (may_be_next window last) true may in
    blocked window state last first tells turns.0 turn can.0 waits
all_blocked window state first (one ∷ other ∷ rest) tells turn turns may waits =
    let can = and_parts (may_be_next window one) (list_all (may_be_next window) (other ∷ rest)) may in
    let all = and_parts (waits_for window one other) (waits_around window first (other ∷ rest)) waits in (
      blocked window state one other tells turns.0 turns.1.0 can.0 all.0,
      all_blocked window state first (other ∷ rest) tells turn turns.1 can.1 all.1,
    )

-- what a cycle says of its events
pub record CycleTold (window : WindowForm) (first : EventId) (rest : List EventId) : Type 0 where
  pub some : nat_le 1 (length rest) ≡ true
  pub few : nat_le (length rest) 3 ≡ true
  pub least : list_all (λ other. nat_lt first.thread other.thread) rest ≡ true
  pub apart : all_pairs are_apart rest ≡ true
  pub may : list_all (may_be_next window) (first ∷ rest) ≡ true
  pub waits : waits_around window first (first ∷ rest) ≡ true

pub cycle_told : (window : WindowForm) (first : EventId) (rest : List EventId) → is_cycle window (first ∷ rest) ≡ true → CycleTold window first rest
cycle_told window first rest e =
    let size = and_parts (nat_le 1 (length rest) && nat_le (length rest) 3)
    (list_all (λ other. nat_lt first.thread other.thread) rest && (all_pairs are_apart rest && (list_all (may_be_next window) (first ∷ rest) && waits_around window first (first ∷ rest)))) e in
    let sizes = and_parts (nat_le 1 (length rest)) (nat_le (length rest) 3) size.0 in
    let least = and_parts (list_all (λ other. nat_lt first.thread other.thread) rest)
    (all_pairs are_apart rest && (list_all (may_be_next window) (first ∷ rest) && waits_around window first (first ∷ rest))) size.1 in
    let apart = and_parts (all_pairs are_apart rest) (list_all (may_be_next window) (first ∷ rest) && waits_around window first (first ∷ rest)) least.1 in
    let may = and_parts (list_all (may_be_next window) (first ∷ rest)) (waits_around window first (first ∷ rest)) apart.1 in
    record { some = sizes.0; few = sizes.1; least = least.0; apart = apart.0; may = may.0; waits = may.1 }

around : (window : WindowForm) (state : State) (ids : List EventId) → Tells window state → is_cycle window ids ≡ true → AreNext state ids → BlockAround window state ids
around window state [] tells e turns = cc
around window state (first ∷ rest) tells e turns =
    let told = cycle_told window first rest e in
    all_blocked window state first (first ∷ rest) tells turns.0 turns told.may told.waits

-- events that are blocked are next
next_blocked : (window : WindowForm) (state : State) (first : EventId) (ids : List EventId) → AreBlocked window state first ids → AreNext state ids
next_blocked window state first [] blocked_all = tt
next_blocked window state first (last ∷ []) blocked_all = (blocked_all.turn, tt)
next_blocked window state first (one ∷ other ∷ rest) blocked_all = (blocked_all.0.turn, next_blocked window state first (other ∷ rest) blocked_all.1)

pub around_next : (window : WindowForm) (state : State) (ids : List EventId) → BlockAround window state ids → AreNext state ids
around_next window state [] around = absurd around
around_next window state (first ∷ rest) around = next_blocked window state first (first ∷ rest) around

-- so a cycle whose events are next is blocked, and a stuck one is so after some schedule
pub cycles_block : HoldsAreTraced → ThreadsAreStarted → CyclesBlock
cycles_block traced started = record {
  block = λ window ids schedule last is cycle r turns. around window last ids (tells_run traced started window last schedule is r) cycle turns;
  stuck = λ window ids is cycle. (
    (λ stuck. (stuck.0, (stuck.1, stuck.2, around window stuck.1 ids (tells_run traced started window stuck.1 stuck.0 is stuck.2) cycle stuck.3))),
    (λ ends. (ends.0, ends.1.0, ends.1.1, around_next window ends.1.0 ids ends.1.2)),
  );
}
