-- Laws: which threads are readers of a lock after events that happen.
use Rattle.std.proofs.Common.{ℕ, ◌≡◌, ◌⊎◌, ap, sym, ◌∙◌, refl, subst, inl, inr, Bool, true, false, List, [], ◌∷◌}
use Rattle.std.specs.Prelude.{Some, None, Option, Ok}
use Rattle.std.proofs.lemmas.Bool.{cases_eq, true≢false}
use Rattle.gp_base.specs.TableLaws.{same_or_apart}
use Rattle.gp_trace.specs.declared.lock_use.LockMode.TheVariants.{Exclusive, Shared}
use Rattle.gp_trace.specs.declared.lock_use.LockUse.{LockUse}
use Rattle.gp_trace.specs.declared.lock_use.LockUse.TheVariants.{Take, GiveBack}
use Rattle.gp_window.specs.WindowForm.{WindowForm}
use Rattle.gp_window.specs.declared.schedule.EventId.{EventId}
use Rattle.gp_replay.specs.Feasible.{Runs}
use Rattle.gp_replay.specs.LockUses.{GivesBack, Takes}
use Rattle.gp_replay.specs.Readers.{is_reader, with_reader, without_reader}
use Rattle.gp_replay.specs.Sharing.{NoneGivesBack, Shares}
use Rattle.gp_replay.specs.Step.{next, readers_after}
use Rattle.gp_replay.specs.declared.state.State.{State}
use Rattle.gp_replay.specs.ReaderLaws.{added_apart, added_here, dropped_apart, dropped_here}
use Rattle.gp_replay.specs.RunLaws.{runs_split}
use Rattle.gp_replay.specs.UseLaws.{used}

-- two threads at two locks are the same, or not
pub same_reader : (lock name : List ℕ) (thread other : ℕ) → ((lock ≡ name) × (thread ≡ other)) ⊎ (lock ≡ name → thread ≡ other → ⊥)
same_reader lock name thread other =
    elim (same_or_apart lock name) [
      | inl same ↦ elim (cases_eq thread other) [
        | inl alike ↦ inl (same, alike)
        | inr differ ↦ inr (λ a b. differ b)
      ]
      | inr apart ↦ inr (λ a b. apart a)
    ]

-- a use by a thread makes this one a reader, or no reader, or leaves it what it was
abbrev Shifts : Option LockUse → ℕ → List ℕ → ℕ → Bool → Bool → Type 0
Shifts how doer lock thread before later =
    ((doer ≡ thread) × (how ≡ Some (Take Shared lock)) × (later ≡ true))
    ⊎ (((doer ≡ thread) × (how ≡ Some (GiveBack Shared lock)) × (later ≡ false))
    ⊎ ((doer ≡ thread → how ≡ Some (Take Shared lock) → ⊥) × (doer ≡ thread → how ≡ Some (GiveBack Shared lock) → ⊥) × (later ≡ before)))

use_shifts : (doer : ℕ) (how : Option LockUse) (readers : List (List ℕ × ℕ)) (lock : List ℕ) (thread : ℕ)
    → Shifts how doer lock thread (is_reader readers lock thread) (is_reader (readers_after doer how readers) lock thread)
use_shifts doer (Some (Take Shared name)) readers lock thread =
    elim (same_reader lock name thread doer) [
      | inl same ↦ inl (
        sym same.1,
        ap (λ n. Some (Take Shared n)) (sym same.0),
        subst (λ n. is_reader (with_reader readers (name, doer)) n thread ≡ true) (sym same.0)
            (subst (λ t. is_reader (with_reader readers (name, doer)) name t ≡ true) (sym same.1) (added_here readers name doer)),
      )
      | inr apart ↦ inr (inr (
        (λ own e. apart (let is : name ≡ lock = cc in sym is) (sym own)),
        (λ own e. cc),
        added_apart readers name lock doer thread apart,
      ))
    ]
use_shifts doer (Some (GiveBack Shared name)) readers lock thread =
    elim (same_reader lock name thread doer) [
      | inl same ↦ inr (inl (
        sym same.1,
        ap (λ n. Some (GiveBack Shared n)) (sym same.0),
        subst (λ n. is_reader (without_reader readers (name, doer)) n thread ≡ false) (sym same.0)
            (subst (λ t. is_reader (without_reader readers (name, doer)) name t ≡ false) (sym same.1) (dropped_here readers name doer)),
      ))
      | inr apart ↦ inr (inr (
        (λ own e. cc),
        (λ own e. apart (let is : name ≡ lock = cc in sym is) (sym own)),
        dropped_apart readers name lock doer thread apart,
      ))
    ]
use_shifts doer (Some (Take Exclusive name)) readers lock thread = inr (inr ((λ own e. cc), (λ own e. cc), refl))
use_shifts doer (Some (GiveBack Exclusive name)) readers lock thread = inr (inr ((λ own e. cc), (λ own e. cc), refl))
use_shifts doer None readers lock thread = inr (inr ((λ own e. cc), (λ own e. cc), refl))

-- a step makes a thread a reader, or no reader, or leaves it what it was
pub step_shifts : (window : WindowForm) (state middle : State) (id : EventId) (lock : List ℕ) (thread : ℕ)
    → next window state id ≡ Ok middle
    → ((id.thread ≡ thread) × Takes window Shared id lock × (is_reader middle.readers lock thread ≡ true))
    ⊎ (((id.thread ≡ thread) × GivesBack window Shared id lock × (is_reader middle.readers lock thread ≡ false))
    ⊎ ((id.thread ≡ thread → ¬ Takes window Shared id lock) × (id.thread ≡ thread → ¬ GivesBack window Shared id lock)
    × (is_reader middle.readers lock thread ≡ is_reader state.readers lock thread)))
step_shifts window state middle id lock thread e =
    let s = used window state middle id e in
    let now : is_reader middle.readers lock thread ≡ is_reader (readers_after id.thread s.how state.readers) lock thread =
    ap (λ readers. is_reader readers lock thread) s.readers in
    elim (use_shifts id.thread s.how state.readers lock thread) [
      | inl took ↦ inl (took.0, s.at ∙ took.1, now ∙ took.2)
      | inr (inl gave) ↦ inr (inl (gave.0, s.at ∙ gave.1, now ∙ gave.2))
      | inr (inr left) ↦ inr (inr ((λ own takes. left.0 own (sym s.at ∙ takes)), (λ own gives. left.1 own (sym s.at ∙ gives)), now ∙ left.2))
    ]

-- a reader racquired the lock, or was a reader before
pub reader_acquired : (window : WindowForm) (before last : State) (ids : List EventId) (lock : List ℕ) (thread : ℕ)
    → Runs window before ids last → is_reader last.readers lock thread ≡ true → Shares window before ids lock thread
reader_acquired window before last [] lock thread r reads = inl (subst (λ (t : State). is_reader t.readers lock thread ≡ true) r reads, tt)
reader_acquired window before last (id ∷ ids) lock thread r reads =
    elim (reader_acquired window r.0 last ids lock thread r.2 reads) [
      | inr a ↦ inr (id ∷ a.0, a.1, a.2, ap (λ rest. id ∷ rest) a.3, a.4, a.5, a.6)
      | inl was ↦ elim (step_shifts window before r.0 id lock thread r.1) [
        | inl took ↦ inr ([], id, ids, refl, took.0, took.1, was.1)
        | inr (inl gave) ↦ absurd (true≢false (sym was.0 ∙ gave.2))
        | inr (inr left) ↦ inl (sym left.2 ∙ was.0, (left.1, was.1))
      ]
    ]

-- a reader stays one while it does not give the lock back
kept_reader : (window : WindowForm) (before last : State) (ids : List EventId) (lock : List ℕ) (thread : ℕ)
    → Runs window before ids last → is_reader before.readers lock thread ≡ true → NoneGivesBack window ids lock thread
    → is_reader last.readers lock thread ≡ true
kept_reader window before last [] lock thread r was none = ap (λ (t : State). is_reader t.readers lock thread) r ∙ was
kept_reader window before last (id ∷ ids) lock thread r was none =
    elim (step_shifts window before r.0 id lock thread r.1) [
      | inl took ↦ kept_reader window r.0 last ids lock thread r.2 took.2 none.1
      | inr (inl gave) ↦ absurd (none.0 gave.0 gave.1)
      | inr (inr left) ↦ kept_reader window r.0 last ids lock thread r.2 (left.2 ∙ was) none.1
    ]

-- a thread that racquires a lock is a reader after its step
pub taker_reads : (window : WindowForm) (state middle : State) (id : EventId) (lock : List ℕ) (thread : ℕ)
    → next window state id ≡ Ok middle → id.thread ≡ thread → Takes window Shared id lock → is_reader middle.readers lock thread ≡ true
taker_reads window state middle id lock thread e own takes =
    elim (step_shifts window state middle id lock thread e) [
      | inl took ↦ took.2
      | inr (inl gave) ↦ (let bad : ◌≡◌ {A = Option LockUse} (Some (Take Shared lock)) (Some (GiveBack Shared lock)) = sym takes ∙ gave.1 in cc)
      | inr (inr left) ↦ absurd (left.0 own takes)
    ]

-- a thread that racquired the lock, or held it so before, and has not given it back, is a reader
pub sharer_is_reader : (window : WindowForm) (before last : State) (ids : List EventId) (lock : List ℕ) (thread : ℕ)
    → Runs window before ids last → Shares window before ids lock thread → is_reader last.readers lock thread ≡ true
sharer_is_reader window before last ids lock thread r (inl was) = kept_reader window before last ids lock thread r was.0 was.1
sharer_is_reader window before last ids lock thread r (inr a) =
    let split = runs_split window before last a.0 (a.1 ∷ a.2) (subst (λ all. Runs window before all last) a.3 r) in
    let reads = taker_reads window split.0 split.2.0 a.1 lock thread split.2.1 a.4 a.5 in
    kept_reader window split.2.0 last a.2 lock thread split.2.2 reads a.6
