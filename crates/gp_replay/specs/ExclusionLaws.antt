-- Laws: a lock that has a holder has no reader.
use Rattle.std.proofs.Common.{ℕ, ◌≡◌, ap, sym, ◌∙◌, subst, inl, inr, Bool, true, false, List, [], ◌∷◌}
use Rattle.std.specs.Prelude.{Some, None, Option, Ok, ◌||◌, is_some}
use Rattle.std.proofs.lemmas.Bool.{true≢false}
use Rattle.gp_trace.specs.declared.lock_use.LockMode.TheVariants.{Exclusive, Shared}
use Rattle.gp_trace.specs.declared.lock_use.LockUse.{LockUse}
use Rattle.gp_trace.specs.declared.lock_use.LockUse.TheVariants.{Take}
use Rattle.gp_window.specs.WindowForm.{WindowForm}
use Rattle.gp_window.specs.declared.schedule.EventId.{EventId}
use Rattle.gp_replay.specs.Feasible.{Runs}
use Rattle.gp_replay.specs.LockUses.{Takes}
use Rattle.gp_replay.specs.Readers.{has_reader, is_reader}
use Rattle.gp_replay.specs.Step.{allowed_use, holder_of, is_held_against, next}
use Rattle.gp_replay.specs.declared.state.State.{State}
use Rattle.gp_replay.specs.HolderLaws.{step_turns}
use Rattle.gp_replay.specs.ReaderLaws.{no_reader}
use Rattle.gp_replay.specs.SharingLaws.{step_shifts}
use Rattle.gp_replay.specs.UseLaws.{take_finds_free, used}

-- a lock that has a holder in this state has no reader
abbrev pub HoldersAreAlone : State → Type 0
HoldersAreAlone state = (lock : List ℕ) (one other : ℕ) → holder_of state lock ≡ Some one → ¬ (is_reader state.readers lock other ≡ true)

-- a step that takes a lock finds that nobody holds it against that
taker_finds_free : (window : WindowForm) (state middle : State) (id : EventId) (lock : List ℕ)
    → next window state id ≡ Ok middle
    → (Takes window Exclusive id lock → is_held_against state Exclusive lock ≡ false)
    × (Takes window Shared id lock → is_held_against state Shared lock ≡ false)
taker_finds_free window state middle id lock e =
    let s = used window state middle id e in (
      (λ takes. take_finds_free state Exclusive lock (subst (λ (u : Option LockUse). allowed_use state u ≡ Ok tt) (sym s.at ∙ takes) s.allowed)),
      (λ takes. take_finds_free state Shared lock (subst (λ (u : Option LockUse). allowed_use state u ≡ Ok tt) (sym s.at ∙ takes) s.allowed)),
    )

-- of two tests that fail together the second fails
second_fails : (a b : Bool) → (a || b) ≡ false → b ≡ false
second_fails true b e = absurd (true≢false e)
second_fails false b e = e

-- an acquire leaves no reader beside it
pub acquired_alone : (window : WindowForm) (state middle : State) (id : EventId) (lock : List ℕ) (other : ℕ)
    → next window state id ≡ Ok middle → Takes window Exclusive id lock → is_reader state.readers lock other ≡ false
acquired_alone window state middle id lock other e takes =
    no_reader state.readers lock other
    (second_fails (is_some (holder_of state lock)) (has_reader state.readers lock) ((taker_finds_free window state middle id lock e).0 takes))

-- a racquire finds no holder
pub shared_unheld : (window : WindowForm) (state middle : State) (id : EventId) (lock : List ℕ)
    → next window state id ≡ Ok middle → Takes window Shared id lock → is_some (holder_of state lock) ≡ false
shared_unheld window state middle id lock e takes = (taker_finds_free window state middle id lock e).1 takes

-- a lock that has a holder is held
held : (holder : Option ℕ) (thread : ℕ) → holder ≡ Some thread → is_some holder ≡ true
held holder thread e = ap (λ (h : Option ℕ). is_some h) e

-- a step leaves holders alone
step_alone : (window : WindowForm) (state middle : State) (id : EventId) → next window state id ≡ Ok middle → HoldersAreAlone state → HoldersAreAlone middle
step_alone window state middle id e alone lock one other holds reads =
    elim (step_turns window state middle id lock e) [
      | inl took ↦ elim (step_shifts window state middle id lock other e) [
        | inl shared ↦ (let bad : ◌≡◌ {A = Option LockUse} (Some (Take Exclusive lock)) (Some (Take Shared lock)) = sym took.0 ∙ shared.1 in cc)
        | inr (inl gave) ↦ absurd (true≢false (sym reads ∙ gave.2))
        | inr (inr left) ↦ absurd (true≢false (sym reads ∙ left.2 ∙ acquired_alone window state middle id lock other e took.0))
      ]
      | inr (inl freed) ↦ (let bad : ◌≡◌ {A = Option ℕ} None (Some one) = sym freed.1 ∙ holds in cc)
      | inr (inr kept) ↦ elim (step_shifts window state middle id lock other e) [
        | inl shared ↦ absurd (true≢false (sym (held (holder_of state lock) one (sym kept.2 ∙ holds)) ∙ shared_unheld window state middle id lock e shared.1))
        | inr (inl gave) ↦ absurd (true≢false (sym reads ∙ gave.2))
        | inr (inr left) ↦ alone lock one other (sym kept.2 ∙ holds) (sym left.2 ∙ reads)
      ]
    ]

-- events that happen leave holders alone
pub run_alone : (window : WindowForm) (before last : State) (ids : List EventId) → Runs window before ids last → HoldersAreAlone before → HoldersAreAlone last
run_alone window before last [] r alone = subst HoldersAreAlone (sym r) alone
run_alone window before last (id ∷ ids) r alone = run_alone window r.0 last ids r.2 (step_alone window before r.0 id r.1 alone)
