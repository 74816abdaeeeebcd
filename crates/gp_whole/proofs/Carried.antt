-- After a schedule that links a window to the next, the state is that in which the next window begins, but for the counts.
use Rattle.std.proofs.Common.{ℕ, ◌≡◌, ap, sym, ◌∙◌, refl, subst, inl, inr, List, arith}
use Rattle.std.proofs.lemmas.List.{take_all}
use Rattle.std.specs.Cmp.{both_ways}
use Rattle.std.specs.Prelude.{◌↔◌, Option, Some, None, take}
use Rattle.gp_trace.specs.declared.lock_use.LockMode.{LockMode}
use Rattle.gp_trace.specs.declared.lock_use.LockMode.TheVariants.{Exclusive, Shared}
use Rattle.gp_window.specs.declared.manifest.StartValue.{StartValue}
use Rattle.gp_window.specs.declared.schedule.EventId.{EventId}
use Rattle.gp_window.specs.Events.{segment_of, size_of}
use Rattle.gp_window.specs.Follow.{PassesOn}
use Rattle.gp_window.specs.Formed.{mode_at_start}
use Rattle.gp_window.specs.Modes.{mode_after, mode_before}
use Rattle.gp_window.specs.ModesLaws.{modes_told}
use Rattle.gp_window.specs.Starts.{is_among}
use Rattle.gp_window.specs.WindowForm.{IsWindow, WindowForm}
use Rattle.gp_replay.specs.Alike.{Alike}
use Rattle.gp_replay.specs.HoldLaws.{IsHeldBy}
use Rattle.gp_replay.specs.OrderLaws.{started_after, started_by_run}
use Rattle.gp_replay.specs.Readers.{is_reader}
use Rattle.gp_replay.specs.Start.{BeginsAsWindow}
use Rattle.gp_replay.specs.Step.{count_of, holder_of, start_state}
use Rattle.gp_replay.specs.Told.{HoldsAreTraced, next_of}
use Rattle.gp_whole.specs.Linked.{begun_again, Links}
use Rattle.gp_whole.specs.WholeLaws.{counted_by_whole}

-- options that are the same numbers are one
same_option : (a b : Option ℕ) → ((n : ℕ) → (a ≡ Some n) ↔ (b ≡ Some n)) → a ≡ b
same_option None None f = refl
same_option None (Some n) f = (f n).1 refl
same_option (Some n) b f = sym ((f n).0 refl)

-- two facts that each say what a third one says
through : {P Q R : Type 0} → P ↔ Q → R ↔ Q → P ↔ R
through f g = (λ p. g.1 (f.0 p), λ r. f.1 (g.0 r))

module _ (given : List StartValue) (window next : WindowForm) (begins : BeginsAsWindow) (traced : HoldsAreTraced) (is : IsWindow window) (is_next : IsWindow next)
    (passes : PassesOn given window next) (ids : List EventId) (links : Links window next ids) where
  counts : (thread : ℕ) → count_of links.last thread ≡ size_of window thread
  counts = counted_by_whole window links.last ids links.runs links.whole

  -- a thread that has done its events holds a lock, by its own trace, as it does when the next window begins
  mode_next : (thread : ℕ) (lock : List ℕ) → mode_before window (next_of links.last thread) lock ≡ mode_at_start next thread lock
  mode_next thread lock =
      let passed = passes.locks thread in
      let size : count_of links.last thread ≡ size_of window thread = counts thread in
      let all : take (count_of links.last thread) (segment_of window thread) ≡ segment_of window thread =
      take_all (count_of links.last thread) (segment_of window thread) (omega (arith, size)) in
      ap (λ events. mode_after lock (mode_at_start window thread lock) events) all
      ∙ ap (λ before. mode_after lock before (segment_of window thread)) (sym (passed.told lock))
      ∙ sym (modes_told passed.held (segment_of window thread) lock)
      ∙ passed.left lock

  -- and so it does in the state
  held_next : (mode : LockMode) (lock : List ℕ) (thread : ℕ) → IsHeldBy links.last mode lock thread ↔ (mode_at_start next thread lock ≡ Some mode)
  held_next mode lock thread =
      subst (λ found. IsHeldBy links.last mode lock thread ↔ (found ≡ Some mode)) (mode_next thread lock)
      (traced window ids links.last is links.runs thread lock mode)

  holders_next : (lock : List ℕ) → holder_of links.last lock ≡ holder_of (start_state next) lock
  holders_next lock =
      same_option (holder_of links.last lock) (holder_of (start_state next) lock)
      (λ thread. through (held_next Exclusive lock thread) (begins.holds next is_next lock thread))

  readers_next : (lock : List ℕ) (thread : ℕ) → is_reader links.last.readers lock thread ≡ is_reader (start_state next).readers lock thread
  readers_next lock thread =
      let same = through (held_next Shared lock thread) (begins.reads next is_next lock thread) in
      both_ways (is_reader links.last.readers lock thread) (is_reader (start_state next).readers lock thread) same.0 same.1

  started_next : (thread : ℕ) → is_among links.last.started thread ≡ is_among next.started thread
  started_next thread =
      both_ways (is_among links.last.started thread) (is_among next.started thread)
      (λ e. (passes.started thread).1 (elim (started_by_run window (start_state window) links.last ids thread links.runs e) [
        | inl already ↦ inl already
        | inr by ↦ inr (by.0, by.2)
      ]))
      (λ e. started_after window (start_state window) links.last ids thread links.runs (elim ((passes.started thread).0 e) [
        | inl already ↦ inl already
        | inr by ↦ inr (by.0, links.whole by.0 _ by.1, by.1)
      ]))

  -- the state in which the next window begins again and its start state tell the same
  pub leads_on : Alike (begun_again next links.last) (start_state next)
  leads_on = record {
    counts = refl;
    values = links.values;
    holders = holders_next;
    readers = readers_next;
    started = started_next;
  }
