-- Laws: what a thread holds by its own trace it holds in the state, and the other way round. It is one invariant along a schedule.
use Rattle.std.proofs.Common.{ℕ, suc, true, ◌≡◌, ap, sym, ◌∙◌, refl, subst, inl, inr, List, [], ◌∷◌, length, arith}
use Rattle.std.specs.Prelude.{◌↔◌, Option, Some, None, Ok, take}
use Rattle.std.specs.Str.{bytes_eq}
use Rattle.std.proofs.lemmas.Bool.{cases_Bool, cases_eq}
use Rattle.std.proofs.lemmas.List.{length-replicate}
use Rattle.std.proofs.lemmas.Slice.Eq.{bytes_eq-Decides}
use Rattle.gp_trace.specs.declared.event.Event.{Event}
use Rattle.gp_trace.specs.declared.lock_use.LockMode.{LockMode}
use Rattle.gp_trace.specs.declared.lock_use.LockMode.TheVariants.{Exclusive, Shared}
use Rattle.gp_trace.specs.declared.lock_use.LockUse.{LockUse}
use Rattle.gp_trace.specs.declared.lock_use.LockUse.TheVariants.{Take, GiveBack}
use Rattle.gp_trace.specs.LockUse.{lock_use_of}
use Rattle.gp_window.specs.declared.schedule.EventId.{EventId}
use Rattle.gp_window.specs.Events.{event_at, segment_of}
use Rattle.gp_window.specs.Formed.{IsFormed, mode_at_start}
use Rattle.gp_window.specs.ModesLaws.{gave_held, mode_next, use_before}
use Rattle.gp_window.specs.Modes.{mode_after, mode_after_use, mode_before}
use Rattle.gp_window.specs.WindowForm.{WindowForm}
use Rattle.gp_replay.specs.declared.state.State.{State}
use Rattle.gp_replay.specs.CountLaws.{CountsThreads, step_is_counted, step_keeps_others, step_keeps_threads}
use Rattle.gp_replay.specs.Feasible.{Runs}
use Rattle.gp_replay.specs.HoldLaws.{held_before, IsHeldBy, stays_held, taker_holds, takes_beside}
use Rattle.gp_replay.specs.LockUses.{GivesBack, use_of}
use Rattle.gp_replay.specs.PartLaws.{nothing_done}
use Rattle.gp_replay.specs.StartLaws.{held_as_told, read_as_told}
use Rattle.gp_replay.specs.Step.{count_of, next, start_state}
use Rattle.gp_replay.specs.StepLaws.{stepped}

-- how a thread holds a lock after so many of its events
abbrev pub own : WindowForm → ℕ → ℕ → List ℕ → Option LockMode
own window thread n lock = mode_before window (record { thread = thread; index = n }) lock

-- the invariant: each thread holds each lock in the state as it does by its own trace
pub record Tells (window : WindowForm) (state : State) : Type 0 where
  pub threads : CountsThreads window state
  pub held : (thread : ℕ) (lock : List ℕ) (mode : LockMode) → IsHeldBy state mode lock thread ↔ (own window thread (count_of state thread) lock ≡ Some mode)

-- a thread holds a lock in the first state as it does when the window begins
pub start_told : (window : WindowForm) (thread : ℕ) (lock : List ℕ) (mode : LockMode) → IsFormed window
    → IsHeldBy (start_state window) mode lock thread ↔ (mode_at_start window thread lock ≡ Some mode)
start_told window thread lock Exclusive formed = held_as_told window formed lock thread
start_told window thread lock Shared formed = read_as_told window formed lock thread

pub tells_start : (window : WindowForm) → IsFormed window → Tells window (start_state window)
tells_start window formed = record {
  threads = length-replicate (length window.segments) 0;
  held = λ thread lock mode.
      subst (λ n. IsHeldBy (start_state window) mode lock thread ↔ (own window thread n lock ≡ Some mode)) (sym (nothing_done window thread))
      (start_told window thread lock mode formed);
}

-- what a thread gives back it holds
pub gives_own : (window : WindowForm) (state middle : State) (id : EventId) (lock : List ℕ) (mode : LockMode) → IsFormed window → Tells window state
    → next window state id ≡ Ok middle → GivesBack window mode id lock → IsHeldBy state mode lock id.thread
gives_own window state middle id lock mode formed tells e gives =
    let s = stepped window state middle id e in
    let event : Event = s.event in
    let uses = formed.locks id.thread in
    let how : lock_use_of event ≡ Some (GiveBack mode lock) = sym (ap use_of s.there) ∙ gives in
    let gave = gave_held uses.held (segment_of window id.thread) id.index event mode lock uses.well s.there how in
    let holds : own window id.thread id.index lock ≡ Some mode =
    subst (λ m. mode_after lock m (take id.index (segment_of window id.thread)) ≡ Some mode) (uses.told lock) gave in
    (tells.held id.thread lock mode).1 (subst (λ n. own window id.thread n lock ≡ Some mode) (sym s.turn) holds)

-- of two threads that hold a lock so, where only the first could give it back as a reader, the two are one
pub one_holder : (state : State) (mode : LockMode) (lock : List ℕ) (one other : ℕ) → IsHeldBy state mode lock one → IsHeldBy state mode lock other
    → (mode ≡ Shared → one ≡ other) → one ≡ other
one_holder state Exclusive lock one other first second alone =
    let same : ◌≡◌ {A = Option ℕ} (Some one) (Some other) = sym first ∙ second in cc
one_holder state Shared lock one other first second alone = alone refl

-- a lock is held after it was taken; one that was held stays so where it is not given back, nor taken in another way
use_taken : (lock : List ℕ) (before : Option LockMode) (how : Option LockUse) (mode : LockMode) → how ≡ Some (Take mode lock) → mode_after_use lock before how ≡ Some mode
use_taken lock before how mode is =
    let own : bytes_eq lock lock ≡ true = (bytes_eq-Decides lock lock).1 refl in
    subst (λ u. mode_after_use lock before u ≡ Some mode) (sym is) (rw own refl)

use_kept : (lock : List ℕ) (before : Option LockMode) (how : Option LockUse) (mode : LockMode) → before ≡ Some mode
    → ((other : LockMode) → how ≡ Some (Take other lock) → other ≡ mode) → ((other : LockMode) → how ≡ Some (GiveBack other lock) → ⊥)
    → mode_after_use lock before how ≡ Some mode
use_kept lock before None mode is takes gives = is
use_kept lock before (Some (Take other name)) mode is takes gives =
    elim (cases_Bool (bytes_eq name lock)) [
      | inl same ↦ rw same (ap Some (takes other (ap (λ n. Some (Take other n)) ((bytes_eq-Decides name lock).0 same))))
      | inr apart ↦ rw apart is
    ]
use_kept lock before (Some (GiveBack other name)) mode is takes gives =
    elim (cases_Bool (bytes_eq name lock)) [
      | inl same ↦ absurd (gives other (ap (λ n. Some (GiveBack other n)) ((bytes_eq-Decides name lock).0 same)))
      | inr apart ↦ rw apart is
    ]

same_mode : (found : Option LockMode) (one other : LockMode) → found ≡ Some one → found ≡ Some other → one ≡ other
same_mode found one other first second = let same : ◌≡◌ {A = Option LockMode} (Some one) (Some other) = sym first ∙ second in cc

-- one event of a thread more in its own trace
own_next : (window : WindowForm) (id : EventId) (event : Event) (lock : List ℕ) → event_at window id ≡ Some event
    → own window id.thread (suc id.index) lock ≡ mode_after_use lock (own window id.thread id.index lock) (lock_use_of event)
own_next window id event lock there = mode_next lock (mode_at_start window id.thread lock) (segment_of window id.thread) id.index event there

-- what a thread holds after its own step
own_to_state : (window : WindowForm) (state middle : State) (id : EventId) (lock : List ℕ) (mode : LockMode) → Tells window state
    → next window state id ≡ Ok middle → own window id.thread (suc id.index) lock ≡ Some mode → IsHeldBy middle mode lock id.thread
own_to_state window state middle id lock mode tells e holds =
    let s = stepped window state middle id e in
    let event : Event = s.event in
    elim (use_before lock (own window id.thread id.index lock) (lock_use_of event) mode (sym (own_next window id event lock s.there) ∙ holds)) [
      | inl takes ↦ taker_holds window state middle id mode lock e (ap use_of s.there ∙ takes)
      | inr kept ↦
          let before : IsHeldBy state mode lock id.thread =
          (tells.held id.thread lock mode).1 (subst (λ n. own window id.thread n lock ≡ Some mode) (sym s.turn) kept.1) in
          elim (stays_held window state middle id mode lock id.thread e before) [
            | inl gives ↦ absurd (kept.0 (sym (ap use_of s.there) ∙ gives.0))
            | inr stays ↦ stays.1
          ]
    ]

own_from_state : (window : WindowForm) (state middle : State) (id : EventId) (lock : List ℕ) (mode : LockMode) → IsFormed window → Tells window state
    → next window state id ≡ Ok middle → IsHeldBy middle mode lock id.thread → own window id.thread (suc id.index) lock ≡ Some mode
own_from_state window state middle id lock mode formed tells e held =
    let s = stepped window state middle id e in
    let event : Event = s.event in
    let at : use_of (event_at window id) ≡ lock_use_of event = ap use_of s.there in
    let was = λ (m : LockMode) (h : IsHeldBy state m lock id.thread).
    subst (λ n. own window id.thread n lock ≡ Some m) s.turn ((tells.held id.thread lock m).0 h) in
    own_next window id event lock s.there ∙ elim (held_before window state middle id mode lock id.thread e held) [
      | inl took ↦ use_taken lock (own window id.thread id.index lock) (lock_use_of event) mode (sym at ∙ took.1)
      | inr kept ↦
          use_kept lock (own window id.thread id.index lock) (lock_use_of event) mode (was mode kept.1)
          (λ other takes. let both = takes_beside window state middle id mode other lock id.thread e (at ∙ takes) kept.1 in both.1 ∙ sym both.0)
          (λ other gives.
          let same : other ≡ mode =
          same_mode (own window id.thread id.index lock) other mode (was other (gives_own window state middle id lock other formed tells e (at ∙ gives))) (was mode kept.1) in
          kept.0 refl (subst (λ m. GivesBack window m id lock) same (at ∙ gives)))
    ]

-- what a thread holds after a step by another thread
other_step : (window : WindowForm) (state middle : State) (id : EventId) (lock : List ℕ) (mode : LockMode) (thread : ℕ) → IsFormed window → Tells window state
    → next window state id ≡ Ok middle → (id.thread ≡ thread → ⊥) → IsHeldBy middle mode lock thread ↔ IsHeldBy state mode lock thread
other_step window state middle id lock mode thread formed tells e apart = (
  (λ held. elim (held_before window state middle id mode lock thread e held) [
    | inl took ↦ absurd (apart took.0)
    | inr kept ↦ kept.1
  ]),
  (λ held. elim (stays_held window state middle id mode lock thread e held) [
    | inl gives ↦ absurd (apart (one_holder state mode lock id.thread thread (gives_own window state middle id lock mode formed tells e gives.0) held gives.1))
    | inr stays ↦ stays.1
  ]),
)

-- the invariant is kept by each step
pub tells_step : (window : WindowForm) (state middle : State) (id : EventId) → IsFormed window → Tells window state
    → next window state id ≡ Ok middle → Tells window middle
tells_step window state middle id formed tells e =
    let now = step_is_counted window state middle id tells.threads e in
    record {
      threads = step_keeps_threads window state middle id e tells.threads;
      held = λ thread lock mode. elim (cases_eq id.thread thread) [
        | inl same ↦
            let P : ℕ → Type 0 = λ t. IsHeldBy middle mode lock t ↔ (own window t (count_of middle t) lock ≡ Some mode) in
            let one : count_of middle id.thread ≡ suc id.index = omega (arith, now) in
            subst P same (subst (λ n. IsHeldBy middle mode lock id.thread ↔ (own window id.thread n lock ≡ Some mode)) (sym one) (
              own_from_state window state middle id lock mode formed tells e,
              own_to_state window state middle id lock mode tells e,
            ))
        | inr apart ↦
            let counts : count_of middle thread ≡ count_of state thread = step_keeps_others window state middle id thread e apart in
            let both = other_step window state middle id lock mode thread formed tells e apart in
            let told = tells.held thread lock mode in
            subst (λ n. IsHeldBy middle mode lock thread ↔ (own window thread n lock ≡ Some mode)) (sym counts)
            ((λ held. told.0 (both.0 held)), (λ holds. both.1 (told.1 holds)))
      ];
    }

pub tells_run : (window : WindowForm) (state last : State) (ids : List EventId) → IsFormed window → Tells window state → Runs window state ids last → Tells window last
tells_run window state last [] formed tells r = subst (λ (s : State). Tells window s) (sym r) tells
tells_run window state last (id ∷ ids) formed tells r = tells_run window r.0 last ids formed (tells_step window state r.0 id formed tells r.1) r.2
