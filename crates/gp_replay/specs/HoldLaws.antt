-- Laws: which thread holds a lock in which way, from step to step.
use Rattle.std.specs.Prelude.{ℕ, ◌≡◌, ◌⊎◌, refl, true, List, Option, Some, None, Ok, is_some}
use Rattle.std.proofs.Common.{ap, sym, ◌∙◌, inl, inr}
use Rattle.std.proofs.lemmas.Bool.{true≢false}
use Rattle.gp_trace.specs.declared.lock_use.LockMode.{LockMode}
use Rattle.gp_trace.specs.declared.lock_use.LockMode.TheVariants.{Exclusive, Shared}
use Rattle.gp_trace.specs.declared.lock_use.LockUse.{LockUse}
use Rattle.gp_trace.specs.declared.lock_use.LockUse.TheVariants.{Take, GiveBack}
use Rattle.gp_window.specs.WindowForm.{WindowForm}
use Rattle.gp_window.specs.declared.schedule.EventId.{EventId}
use Rattle.gp_replay.specs.LockUses.{GivesBack, Takes}
use Rattle.gp_replay.specs.Readers.{is_reader}
use Rattle.gp_replay.specs.Step.{holder_of, next}
use Rattle.gp_replay.specs.declared.state.State.{State}
use Rattle.gp_replay.specs.ExclusionLaws.{acquired_alone, shared_unheld}
use Rattle.gp_replay.specs.HolderLaws.{acquirer_holds, step_turns}
use Rattle.gp_replay.specs.SharingLaws.{step_shifts, taker_reads}

-- the thread holds the lock in this way
abbrev pub IsHeldBy : State → LockMode → List ℕ → ℕ → Type 0
IsHeldBy state Exclusive lock thread = holder_of state lock ≡ Some thread
IsHeldBy state Shared lock thread = is_reader state.readers lock thread ≡ true

-- an event that takes a lock gives none back
pub take_apart : (window : WindowForm) (id : EventId) (lock : List ℕ) (one other : LockMode) → Takes window one id lock → GivesBack window other id lock → ⊥
take_apart window id lock one other takes gives =
    let bad : ◌≡◌ {A = Option LockUse} (Some (Take one lock)) (Some (GiveBack other lock)) = sym takes ∙ gives in cc

-- who takes a lock holds it
pub taker_holds : (window : WindowForm) (state middle : State) (id : EventId) (mode : LockMode) (lock : List ℕ)
    → next window state id ≡ Ok middle → Takes window mode id lock → IsHeldBy middle mode lock id.thread
taker_holds window state middle id Exclusive lock e takes = acquirer_holds window state middle id lock e takes
taker_holds window state middle id Shared lock e takes = taker_reads window state middle id lock id.thread e refl takes

-- a lock that is held stays so, or the event gives it back; as a reader, only the thread itself does
pub stays_held : (window : WindowForm) (state middle : State) (id : EventId) (mode : LockMode) (lock : List ℕ) (thread : ℕ)
    → next window state id ≡ Ok middle → IsHeldBy state mode lock thread
    → (GivesBack window mode id lock × (mode ≡ Shared → id.thread ≡ thread))
    ⊎ ((id.thread ≡ thread → GivesBack window mode id lock → ⊥) × IsHeldBy middle mode lock thread)
stays_held window state middle id Exclusive lock thread e held =
    elim (step_turns window state middle id lock e) [
      | inl took ↦ (let bad : ◌≡◌ {A = Option ℕ} None (Some thread) = sym took.1 ∙ held in cc)
      | inr (inl freed) ↦ inl (freed.0, λ shared. cc)
      | inr (inr left) ↦ inr ((λ own gives. left.1 gives), left.2 ∙ held)
    ]
stays_held window state middle id Shared lock thread e held =
    elim (step_shifts window state middle id lock thread e) [
      | inl took ↦ inr ((λ own gives. take_apart window id lock Shared Shared took.1 gives), took.2)
      | inr (inl gave) ↦ inl (gave.1, λ shared. gave.0)
      | inr (inr left) ↦ inr (left.1, left.2 ∙ held)
    ]

-- a lock that is held was taken by the event so, or was held so before and is not given back by its thread
pub held_before : (window : WindowForm) (state middle : State) (id : EventId) (mode : LockMode) (lock : List ℕ) (thread : ℕ)
    → next window state id ≡ Ok middle → IsHeldBy middle mode lock thread
    → ((id.thread ≡ thread) × Takes window mode id lock) ⊎ ((id.thread ≡ thread → GivesBack window mode id lock → ⊥) × IsHeldBy state mode lock thread)
held_before window state middle id Exclusive lock thread e held =
    elim (step_turns window state middle id lock e) [
      | inl took ↦ inl ((let same : ◌≡◌ {A = Option ℕ} (Some id.thread) (Some thread) = sym took.2 ∙ held in cc), took.0)
      | inr (inl freed) ↦ (let bad : ◌≡◌ {A = Option ℕ} None (Some thread) = sym freed.1 ∙ held in cc)
      | inr (inr left) ↦ inr ((λ own gives. left.1 gives), sym left.2 ∙ held)
    ]
held_before window state middle id Shared lock thread e held =
    elim (step_shifts window state middle id lock thread e) [
      | inl took ↦ inl (took.0, took.1)
      | inr (inl gave) ↦ absurd (true≢false (sym held ∙ gave.2))
      | inr (inr left) ↦ inr (left.1, sym left.2 ∙ held)
    ]

-- who takes a lock that is held takes it as a reader beside readers
pub takes_beside : (window : WindowForm) (state middle : State) (id : EventId) (mode other : LockMode) (lock : List ℕ) (thread : ℕ)
    → next window state id ≡ Ok middle → Takes window other id lock → IsHeldBy state mode lock thread → (mode ≡ Shared) × (other ≡ Shared)
takes_beside window state middle id Exclusive Exclusive lock thread e takes held =
    elim (step_turns window state middle id lock e) [
      | inl took ↦ (let bad : ◌≡◌ {A = Option ℕ} None (Some thread) = sym took.1 ∙ held in cc)
      | inr (inl freed) ↦ absurd (take_apart window id lock Exclusive Exclusive takes freed.0)
      | inr (inr left) ↦ absurd (left.0 takes)
    ]
takes_beside window state middle id Exclusive Shared lock thread e takes held =
    absurd (true≢false (sym (ap (λ (h : Option ℕ). is_some h) held) ∙ shared_unheld window state middle id lock e takes))
takes_beside window state middle id Shared Exclusive lock thread e takes held =
    absurd (true≢false (sym held ∙ acquired_alone window state middle id lock thread e takes))
takes_beside window state middle id Shared Shared lock thread e takes held = (refl, refl)
