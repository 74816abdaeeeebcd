-- Laws: each thread's part of what happens is a prefix of its segment.
use Rattle.std.proofs.Common.{ℕ, zero, suc, ◌≡◌, ◌+◌, ◌<◌, ◌≤◌, ap, sym, ◌∙◌, refl, subst, inl, inr, List, [], ◌∷◌, length, replicate, arith}
use Rattle.std.specs.Prelude.{◌==◌, Ok, true, false}
use Rattle.std.proofs.lemmas.Bool.{cases_eq, cases_lt, eq-eqb, ne_eqb}
use Rattle.std.proofs.lemmas.List.{length-replicate, get_or-replicate, get_or_past}
use Rattle.gp_window.specs.declared.schedule.EventId.{EventId}
use Rattle.gp_window.specs.WindowForm.{WindowForm}
use Rattle.gp_replay.specs.declared.state.State.{State}
use Rattle.gp_replay.specs.Step.{count_of, next, start_state}
use Rattle.gp_replay.specs.Feasible.{Runs}
use Rattle.gp_window.specs.Events.{size_of}
use Rattle.gp_replay.specs.Part.{events_from, part_of}
use Rattle.gp_replay.specs.CountLaws.{CountsThreads, step_counts, step_is_counted, step_keeps_others, step_keeps_threads}
use Rattle.gp_replay.specs.StepLaws.{stepped}

-- the events of a thread that happen between two states are so many, from the first state's count on
record IsPrefix (window : WindowForm) (before after : State) (ids : List EventId) (thread : ℕ) : Type 0 where
  more : ℕ
  part : part_of thread ids ≡ events_from thread (count_of before thread) more
  total : count_of after thread ≡ count_of before thread + more
  inside : count_of before thread ≤ size_of window thread → count_of after thread ≤ size_of window thread

-- one event of the thread more at the prefix
own_event : (window : WindowForm) (state middle last : State) (id : EventId) (ids : List EventId)
    → CountsThreads window state → next window state id ≡ Ok middle
    → IsPrefix window middle last ids id.thread → IsPrefix window state last (id ∷ ids) id.thread
own_event window state middle last id ids size e prefix =
    let turn : count_of state id.thread ≡ id.index = (stepped window state middle id e).turn in
    let now : count_of middle id.thread ≡ id.index + 1 = step_is_counted window state middle id size e in
    let within : id.index < size_of window id.thread = (step_counts window state middle id e).inside in
    let more : ℕ = prefix.more in
    let total : count_of last id.thread ≡ count_of middle id.thread + more = prefix.total in
    let own : (id.thread == id.thread) ≡ true = eq-eqb id.thread id.thread refl in
    let after : count_of middle id.thread ≡ suc id.index = omega (arith, now) in
    let tail : part_of id.thread ids ≡ events_from id.thread (suc id.index) more =
    prefix.part ∙ ap (λ index. events_from id.thread index more) after in
    let whole : part_of id.thread (id ∷ ids) ≡ events_from id.thread id.index (suc more) = rw own (ap (λ rest. id ∷ rest) tail) in
    record {
      more = suc more;
      part = whole ∙ ap (λ index. events_from id.thread index (suc more)) (sym turn);
      total = omega (arith, total, turn, now);
      inside = λ fits. prefix.inside (omega (arith, within, now));
    }

-- an event of another thread at the prefix
other_event : (window : WindowForm) (state middle last : State) (id : EventId) (ids : List EventId) (thread : ℕ)
    → next window state id ≡ Ok middle → (id.thread ≡ thread → ⊥)
    → IsPrefix window middle last ids thread → IsPrefix window state last (id ∷ ids) thread
other_event window state middle last id ids thread e apart prefix =
    let kept : count_of middle thread ≡ count_of state thread = step_keeps_others window state middle id thread e apart in
    let more : ℕ = prefix.more in
    let total : count_of last thread ≡ count_of middle thread + more = prefix.total in
    let other : (id.thread == thread) ≡ false = ne_eqb id.thread thread apart in
    let whole : part_of thread (id ∷ ids) ≡ part_of thread ids = rw other refl in
    record {
      more = more;
      part = whole ∙ prefix.part ∙ ap (λ index. events_from thread index more) kept;
      total = omega (arith, total, kept);
      inside = λ fits. prefix.inside (omega (arith, kept, fits));
    }

prefix_of_run : (window : WindowForm) (state last : State) (ids : List EventId) (thread : ℕ)
    → CountsThreads window state → Runs window state ids last → IsPrefix window state last ids thread
prefix_of_run window state last [] thread size r =
    let same : count_of last thread ≡ count_of state thread = ap (λ s. count_of s thread) r in
    record {
      more = 0;
      part = refl;
      total = omega (arith, same);
      inside = λ fits. omega (arith, same, fits);
    }
prefix_of_run window state last (id ∷ ids) thread size r =
    let kept = step_keeps_threads window state r.0 id r.1 size in
    let prefix = prefix_of_run window r.0 last ids thread kept r.2 in
    elim (cases_eq id.thread thread) [
      | inl same ↦
          let P : ℕ → Type 0 = λ t. IsPrefix window r.0 last ids t → IsPrefix window state last (id ∷ ids) t in
          subst P same (own_event window state r.0 last id ids size r.1) prefix
      | inr apart ↦ other_event window state r.0 last id ids thread r.1 apart prefix
    ]

-- nothing is done when a window begins
pub nothing_done : (window : WindowForm) (thread : ℕ) → count_of (start_state window) thread ≡ 0
nothing_done window zero = refl
nothing_done window (suc place) =
    let threads = length window.segments in
    elim (cases_lt place threads) [
      | inl within ↦ get_or-replicate threads place 0 0 within
      | inr past ↦ get_or_past (replicate threads 0) place 0 (rw (length-replicate {A = ℕ} threads 0) past)
    ]

-- what happens from the beginning of a window on is a prefix of each segment
pub prefix_from_start : (window : WindowForm) (last : State) (ids : List EventId) (thread : ℕ)
    → Runs window (start_state window) ids last
    → (part_of thread ids ≡ events_from thread 0 (count_of last thread)) × (count_of last thread ≤ size_of window thread)
prefix_from_start window last ids thread r =
    let size : CountsThreads window (start_state window) = length-replicate (length window.segments) 0 in
    let nothing : count_of (start_state window) thread ≡ 0 = nothing_done window thread in
    let prefix = prefix_of_run window (start_state window) last ids thread size r in
    let more : ℕ = prefix.more in
    let total : count_of last thread ≡ count_of (start_state window) thread + more = prefix.total in
    let many : more ≡ count_of last thread = omega (arith, total, nothing) in (
      prefix.part ∙ ap (λ index. events_from thread index more) nothing ∙ ap (λ count. events_from thread 0 count) many,
      prefix.inside (omega (arith, nothing)),
    )
