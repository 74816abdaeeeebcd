-- Laws: an event has happened exactly where its thread has counted it.
use Rattle.std.proofs.Common.{ℕ, zero, suc, ◌≡◌, ◌+◌, ◌<◌, ◌≤◌, ap, sym, subst, inl, inr, List, [], ◌∷◌, arith}
use Rattle.std.specs.Prelude.{◌==◌, Contains, true}
use Rattle.std.proofs.lemmas.Bool.{cases_Bool, cases_eq, eq-eqb}
use Rattle.gp_base.specs.ListLaws.{first_or_rest, here, nothing_in, there}
use Rattle.gp_window.specs.declared.schedule.EventId.{EventId}
use Rattle.gp_window.specs.WindowForm.{WindowForm}
use Rattle.gp_replay.specs.declared.state.State.{State}
use Rattle.gp_replay.specs.Feasible.{Runs}
use Rattle.gp_replay.specs.Part.{events_from, part_of}
use Rattle.gp_replay.specs.PartLaws.{prefix_from_start}
use Rattle.gp_replay.specs.Step.{count_of, start_state}

-- an event stands in a schedule exactly where it stands in its thread's part
to_part : (ids : List EventId) (id : EventId) → Contains ids id → Contains (part_of id.thread ids) id
to_part [] id i = absurd (nothing_in id i)
to_part (first ∷ ids) id i =
    elim (first_or_rest first ids id i) [
      | inl same ↦
          let own : (first.thread == id.thread) ≡ true = eq-eqb first.thread id.thread (ap (λ (e : EventId). e.thread) same) in
          rw own (subst (λ e. Contains (e ∷ part_of id.thread ids) id) (sym same) (here id (part_of id.thread ids)))
      | inr rest ↦ elim (cases_Bool (first.thread == id.thread)) [
        | inl own ↦ rw own (there first (part_of id.thread ids) id (to_part ids id rest))
        | inr other ↦ rw other (to_part ids id rest)
      ]
    ]

from_part : (thread : ℕ) (ids : List EventId) (id : EventId) → Contains (part_of thread ids) id → Contains ids id
from_part thread [] id i = absurd (nothing_in id i)
from_part thread (first ∷ ids) id i =
    elim (cases_Bool (first.thread == thread)) [
      | inl own ↦ elim (first_or_rest first (part_of thread ids) id (rw own at i)) [
        | inl same ↦ subst (λ e. Contains (e ∷ ids) id) (sym same) (here id ids)
        | inr rest ↦ there first ids id (from_part thread ids id rest)
      ]
      | inr other ↦ there first ids id (from_part thread ids id (rw other at i))
    ]

-- the events of a thread from an index on have the indices up to their number
to_index : (thread from count : ℕ) (id : EventId) → Contains (events_from thread from count) id → id.index < from + count
to_index thread from zero id i = absurd (nothing_in id i)
to_index thread from (suc count) id i =
    elim (first_or_rest (record { thread = thread; index = from }) (events_from thread (suc from) count) id i) [
      | inl same ↦ let index : from ≡ id.index = ap (λ (e : EventId). e.index) same in omega (arith, index)
      | inr rest ↦ let below = to_index thread (suc from) count id rest in omega (arith, below)
    ]

from_index : (thread from count index : ℕ) → from ≤ index → index < from + count → Contains (events_from thread from count) (record { thread = thread; index = index })
from_index thread from zero index low high = absurd (omega (arith, low, high))
from_index thread from (suc count) index low high =
    elim (cases_eq from index) [
      | inl same ↦
          subst (λ n. Contains (events_from thread from (suc count)) (record { thread = thread; index = n })) same
          (here (record { thread = thread; index = from }) (events_from thread (suc from) count))
      | inr apart ↦
          there (record { thread = thread; index = from }) (events_from thread (suc from) count) (record { thread = thread; index = index })
          (from_index thread (suc from) count index (omega (arith, low, apart)) (omega (arith, high)))
    ]

-- an event of a run is counted
pub counted_from_in : (window : WindowForm) (last : State) (ids : List EventId) (id : EventId)
    → Runs window (start_state window) ids last → Contains ids id → id.index < count_of last id.thread
counted_from_in window last ids id r i =
    let part = (prefix_from_start window last ids id.thread r).0 in
    let below = to_index id.thread 0 (count_of last id.thread) id (subst (λ list. Contains list id) part (to_part ids id i)) in
    omega (arith, below)

-- and what is counted is an event of the run
pub in_from_counted : (window : WindowForm) (last : State) (ids : List EventId) (id : EventId)
    → Runs window (start_state window) ids last → id.index < count_of last id.thread → Contains ids id
in_from_counted window last ids id r below =
    let part = (prefix_from_start window last ids id.thread r).0 in
    from_part id.thread ids id
    (subst (λ list. Contains list id) (sym part) (from_index id.thread 0 (count_of last id.thread) id.index (omega arith) (omega (arith, below))))
