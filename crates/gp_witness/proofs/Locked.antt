-- Sections of a lock, and locks that are held at the start.
use Rattle.std.proofs.Common.{ℕ, suc, ◌≡◌, ◌≢◌, ◌<◌, ap, sym, ◌∙◌, subst, inl, inr, List, [], ◌∷◌, ◌++◌, true, false, arith}
use Rattle.std.specs.Prelude.{nat_lt}
use Rattle.std.proofs.lemmas.Bool.{cases_eq, ltb-false, ltb-true}
use Rattle.gp_trace.specs.declared.lock_use.LockMode.{LockMode}
use Rattle.gp_trace.specs.declared.lock_use.LockMode.TheVariants.{Exclusive, Shared}
use Rattle.gp_window.specs.declared.schedule.EventId.{EventId}
use Rattle.gp_window.specs.Formed.{IsFormed}
use Rattle.gp_window.specs.WindowForm.{WindowForm}
use Rattle.gp_window.specs.IdLaws.{in_back, is_head, is_later}
use Rattle.gp_window.specs.Ids.{contains_event}
use Rattle.gp_replay.specs.declared.state.State.{State}
use Rattle.gp_replay.specs.Step.{count_of, start_state}
use Rattle.gp_replay.specs.Feasible.{IsFeasible, Runs}
use Rattle.gp_replay.specs.LockUses.{GivesBack, Takes}
use Rattle.gp_replay.specs.CountLaws.{step_is_counted, step_keeps_others}
use Rattle.gp_replay.specs.HoldLaws.{IsHeldBy, stays_held, taker_holds, takes_beside}
use Rattle.gp_replay.specs.PartLaws.{nothing_done}
use Rattle.gp_replay.specs.RunLaws.{runs_split}
use Rattle.gp_replay.specs.StepLaws.{stepped}
use Rattle.gp_replay.specs.ToldLaws.{gives_own, one_holder, start_told, Tells, tells_run, tells_start, tells_step}
use Rattle.gp_constraint.specs.Sections.{exclude}
use Rattle.gp_constraint.specs.StandingLaws.{before_apart, found}
use Rattle.gp_witness.specs.Meaning.{EndsHold, IsFreedFor, SectionsHold, StartHoldsHold}
use Rattle.gp_witness.specs.ScheduleTruth.{before_of, schedule_place, schedule_truth}
use Rattle.gp_witness.proofs.Done.{happened}
use Rattle.gp_witness.proofs.Placed.{place_executed, precedes, stands_before}

-- one event more of the thread in a hold
longer_hold : (window : WindowForm) (mode : LockMode) (lock : List ℕ) (id b : EventId) → (GivesBack window mode id lock → ⊥)
    → EndsHold window mode lock id.thread (suc id.index) b → EndsHold window mode lock id.thread id.index b
longer_hold window mode lock id b keeps ends = record {
  own = ends.own;
  inside = let inside = ends.inside in omega (arith, inside);
  gives = ends.gives;
  none = λ k low high gives.
      elim (cases_eq id.index k) [
        | inl same ↦ keeps (subst (λ n. GivesBack window mode (record { thread = id.thread; index = n }) lock) (sym same) gives)
        | inr apart ↦ ends.none k (omega (arith, low, apart)) high gives
      ];
}

-- a lock that a thread holds so, and does not so later on, was given back by that thread
pub freed_between : (window : WindowForm) (formed : IsFormed window) (state last : State) (ids : List EventId) (lock : List ℕ) (mode : LockMode) (thread : ℕ)
    → Tells window state → Runs window state ids last → IsHeldBy state mode lock thread → (IsHeldBy last mode lock thread → ⊥)
    → (b : EventId) × EndsHold window mode lock thread (count_of state thread) b × (contains_event ids b ≡ true)
freed_between window formed state last [] lock mode thread tells r held free = absurd (free (subst (λ s. IsHeldBy s mode lock thread) (sym r) held))
freed_between window formed state last (id ∷ ids) lock mode thread tells r held free =
    let turn : count_of state id.thread ≡ id.index = (stepped window state r.0 id r.1).turn in
    let now = step_is_counted window state r.0 id tells.threads r.1 in
    let kept = tells_step window state r.0 id formed tells r.1 in
    elim (stays_held window state r.0 id mode lock thread r.1 held) [
      | inl gives ↦
          let own : id.thread ≡ thread = one_holder state mode lock id.thread thread (gives_own window state r.0 id lock mode formed tells r.1 gives.0) held gives.1 in
          let from : count_of state thread ≡ id.index = ap (λ t. count_of state t) (sym own) ∙ turn in (
            id,
            record {
              own = own;
              inside = omega (arith, from);
              gives = gives.0;
              none = λ k low high again. absurd (omega (arith, from, low, high));
            },
            is_head ids id,
          )
      | inr stays ↦
          let rest = freed_between window formed r.0 last ids lock mode thread kept r.2 stays.1 free in
          let ends : EndsHold window mode lock thread (count_of r.0 thread) rest.0 = rest.1 in (
            rest.0,
            elim (cases_eq id.thread thread) [
              | inl same ↦
                  let P : ℕ → Type 0 = λ t. EndsHold window mode lock t (count_of r.0 t) rest.0 → EndsHold window mode lock t (count_of state t) rest.0 in
                  let one : count_of r.0 id.thread ≡ suc id.index = omega (arith, now) in
                  subst P same (λ mine.
                  subst (λ n. EndsHold window mode lock id.thread n rest.0) (sym turn)
                  (longer_hold window mode lock id rest.0 (stays.0 same) (subst (λ n. EndsHold window mode lock id.thread n rest.0) one mine))) ends
              | inr apart ↦
                  let counts : count_of r.0 thread ≡ count_of state thread = step_keeps_others window state r.0 id thread r.1 apart in
                  subst (λ n. EndsHold window mode lock thread n rest.0) counts ends
            ],
            is_later id ids rest.0 rest.2,
          )
    ]

-- two ways that exclude one another are not both those of readers
excluded : (mode other : LockMode) → exclude mode other ≡ true → mode ≡ Shared → other ≡ Shared → ⊥
excluded Exclusive other e one two = cc
excluded Shared Exclusive e one two = cc
excluded Shared Shared e one two = cc

-- of two events that take a lock, not both as readers, the first one's section ends before the other
pub section_ends : (window : WindowForm) (ids : List EventId) (lock : List ℕ) (mode other : LockMode) (a c : EventId) → IsFormed window
    → IsFeasible window ids → Takes window mode a lock → Takes window other c lock → (mode ≡ Shared → other ≡ Shared → ⊥)
    → contains_event ids a ≡ true → contains_event ids c ≡ true → schedule_place window ids a < schedule_place window ids c
    → IsFreedFor window (schedule_truth window ids) mode lock a.thread (suc a.index) c
section_ends window ids lock mode other a c formed feasible takes_a takes_c apart is_a is_c less =
    let h = happened window ids c feasible is_c in
    let front : List EventId = before_of ids c in
    let split = found front a (stands_before window ids a c is_a is_c less) in
    let first : List EventId = before_of front a in
    let runs : Runs window (start_state window) (first ++ a ∷ split.0) h.state = subst (λ list. Runs window (start_state window) list h.state) split.1 h.runs in
    let parts = runs_split window (start_state window) h.state first (a ∷ split.0) runs in
    let at : State = parts.0 in
    let middle : State = parts.2.0 in
    let tells_at : Tells window at = tells_run window (start_state window) at first formed (tells_start window formed) parts.1 in
    let tells : Tells window middle = tells_step window at middle a formed tells_at parts.2.1 in
    let now = step_is_counted window at middle a tells_at.threads parts.2.1 in
    let held = taker_holds window at middle a mode lock parts.2.1 takes_a in
    let freed = freed_between window formed middle h.state split.0 lock mode a.thread tells parts.2.2 held
    (λ still. let both = takes_beside window h.state h.middle c mode other lock a.thread h.step takes_c still in apart both.0 both.1) in
    let from : count_of middle a.thread ≡ suc a.index = omega (arith, now) in
    let later : contains_event front freed.0 ≡ true =
    subst (λ list. contains_event list freed.0 ≡ true) (sym split.1) (in_back first (a ∷ split.0) freed.0 (is_later a split.0 freed.0 freed.2)) in
    (freed.0, subst (λ n. EndsHold window mode lock a.thread n freed.0) from freed.1, precedes window ids freed.0 c is_c later)

-- of two executed events one comes first
comes_first : (window : WindowForm) (ids : List EventId) (a c : EventId) → contains_event ids a ≡ true → contains_event ids c ≡ true → a ≢ c
    → nat_lt (schedule_place window ids a) (schedule_place window ids c) ≡ false → schedule_place window ids c < schedule_place window ids a
comes_first window ids a c is_a is_c apart second =
    let more = ltb-false (schedule_place window ids a) (schedule_place window ids c) second in
    elim (cases_eq (schedule_place window ids a) (schedule_place window ids c)) [
      | inl same ↦
          let at_a = place_executed window ids a is_a in
          let at_c = place_executed window ids c is_c in
          absurd (apart (before_apart ids a c is_a is_c (omega (arith, at_a, at_c, same))))
      | inr differ ↦ omega (arith, more, differ)
    ]

pub sections_hold : (window : WindowForm) (ids : List EventId) → IsFormed window → IsFeasible window ids → SectionsHold window (schedule_truth window ids)
sections_hold window ids formed feasible lock mode other a c takes_a takes_c unlike lower is_a is_c =
    let apart = excluded mode other unlike in
    let differ : a ≢ c = (λ same. let own : a.thread ≡ c.thread = ap (λ (x : EventId). x.thread) same in absurd (omega (arith, own, lower))) in (
      (λ first. section_ends window ids lock mode other a c formed feasible takes_a takes_c apart is_a is_c
          (ltb-true (schedule_place window ids a) (schedule_place window ids c) first)),
      (λ second. section_ends window ids lock other mode c a formed feasible takes_c takes_a (λ one two. apart two one) is_c is_a
          (comes_first window ids a c is_a is_c differ second)),
    )

pub start_holds_hold : (window : WindowForm) (ids : List EventId) → IsFormed window → IsFeasible window ids → StartHoldsHold window (schedule_truth window ids)
start_holds_hold window ids formed feasible lock mode other thread c held takes unlike apart is_c =
    let h = happened window ids c feasible is_c in
    let freed = freed_between window formed (start_state window) h.state (before_of ids c) lock mode thread (tells_start window formed) h.runs
    ((start_told window thread lock mode formed).1 held)
    (λ still. let both = takes_beside window h.state h.middle c mode other lock thread h.step takes still in excluded mode other unlike both.0 both.1) in
    let from : count_of (start_state window) thread ≡ 0 = nothing_done window thread in
    (freed.0, subst (λ n. EndsHold window mode lock thread n freed.0) from freed.1, precedes window ids freed.0 c is_c freed.2)
