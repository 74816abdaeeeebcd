-- Laws: which thread holds a lock after events that happen.
use Rattle.std.proofs.Common.{ℕ, ◌≡◌, ◌⊎◌, ap, sym, ◌∙◌, refl, subst, inl, inr, Bool, false, List, [], ◌∷◌, ◌++◌}
use Rattle.std.specs.Prelude.{Some, None, Option, Ok, ◌||◌, is_some}
use Rattle.std.specs.Cmp.Lexicographic.{slice_cmp}
use Rattle.std.specs.Ordering.{nat_cmp}
use Rattle.gp_base.specs.Table.{value_at}
use Rattle.gp_base.specs.TableLaws.{dropped_apart, dropped_here, put_apart, put_here, same_or_apart}
use Rattle.gp_trace.specs.declared.lock_use.LockMode.TheVariants.{Exclusive, Shared}
use Rattle.gp_trace.specs.declared.lock_use.LockUse.{LockUse}
use Rattle.gp_trace.specs.declared.lock_use.LockUse.TheVariants.{Take, GiveBack}
use Rattle.gp_window.specs.WindowForm.{WindowForm}
use Rattle.gp_window.specs.declared.schedule.EventId.{EventId}
use Rattle.gp_replay.specs.Feasible.{Runs}
use Rattle.gp_replay.specs.Holder.{Holds, IsAcquiredLast, NoneReleases}
use Rattle.gp_replay.specs.LockUses.{GivesBack, Takes}
use Rattle.gp_replay.specs.Step.{allowed_use, holder_of, holders_after, next}
use Rattle.gp_replay.specs.declared.state.State.{State}
use Rattle.gp_replay.specs.RunLaws.{runs_split}
use Rattle.gp_replay.specs.UseLaws.{take_finds_free, used}

-- the holder of a lock among these
abbrev holder_in : List (List ℕ × ℕ) → List ℕ → Option ℕ
holder_in holders lock = value_at (slice_cmp nat_cmp) holders lock

-- a use acquires the lock for its thread, or releases it, or leaves it to whoever has it
abbrev pub Turns : Option LockUse → List ℕ → ℕ → Option ℕ → Option ℕ → Type 0
Turns how lock thread before later =
    ((how ≡ Some (Take Exclusive lock)) × (later ≡ Some thread))
    ⊎ (((how ≡ Some (GiveBack Exclusive lock)) × (later ≡ None))
    ⊎ ((how ≡ Some (Take Exclusive lock) → ⊥) × (how ≡ Some (GiveBack Exclusive lock) → ⊥) × (later ≡ before)))

use_turns : (thread : ℕ) (how : Option LockUse) (holders : List (List ℕ × ℕ)) (lock : List ℕ)
    → Turns how lock thread (holder_in holders lock) (holder_in (holders_after thread how holders) lock)
use_turns thread (Some (Take Exclusive name)) holders lock =
    elim (same_or_apart lock name) [
      | inl same ↦ inl (
        ap (λ n. Some (Take Exclusive n)) (sym same),
        subst (λ n. holder_in (holders_after thread (Some (Take Exclusive name)) holders) n ≡ Some thread) (sym same) (put_here holders name thread),
      )
      | inr apart ↦ inr (inr ((λ e. apart (let is : name ≡ lock = cc in sym is)), (λ e. cc), put_apart holders name lock thread apart))
    ]
use_turns thread (Some (GiveBack Exclusive name)) holders lock =
    elim (same_or_apart lock name) [
      | inl same ↦ inr (inl (
        ap (λ n. Some (GiveBack Exclusive n)) (sym same),
        subst (λ n. holder_in (holders_after thread (Some (GiveBack Exclusive name)) holders) n ≡ None) (sym same) (dropped_here holders name),
      ))
      | inr apart ↦ inr (inr ((λ e. cc), (λ e. apart (let is : name ≡ lock = cc in sym is)), dropped_apart holders name lock apart))
    ]
use_turns thread (Some (Take Shared name)) holders lock = inr (inr ((λ e. cc), (λ e. cc), refl))
use_turns thread (Some (GiveBack Shared name)) holders lock = inr (inr ((λ e. cc), (λ e. cc), refl))
use_turns thread None holders lock = inr (inr ((λ e. cc), (λ e. cc), refl))

-- no holder, of two tests that fail together
pub no_holder : (holder : Option ℕ) (b : Bool) → (is_some holder || b) ≡ false → holder ≡ None
no_holder None b e = refl
no_holder (Some thread) b e = cc

-- an acquire that happens finds its lock without a holder
acquire_finds_free : (state : State) (how : Option LockUse) (lock : List ℕ)
    → how ≡ Some (Take Exclusive lock) → allowed_use state how ≡ Ok tt → holder_of state lock ≡ None
acquire_finds_free state how lock is allowed =
    no_holder _ _ (take_finds_free state Exclusive lock (subst (λ (u : Option LockUse). allowed_use state u ≡ Ok tt) is allowed))

-- a step acquires the lock, which was free, for its thread, or releases it, or leaves it
pub step_turns : (window : WindowForm) (state middle : State) (id : EventId) (lock : List ℕ)
    → next window state id ≡ Ok middle
    → (Takes window Exclusive id lock × (holder_of state lock ≡ None) × (holder_of middle lock ≡ Some id.thread))
    ⊎ ((GivesBack window Exclusive id lock × (holder_of middle lock ≡ None))
    ⊎ ((Takes window Exclusive id lock → ⊥) × (GivesBack window Exclusive id lock → ⊥) × (holder_of middle lock ≡ holder_of state lock)))
step_turns window state middle id lock e =
    let s = used window state middle id e in
    let now : holder_of middle lock ≡ holder_in (holders_after id.thread s.how state.holders) lock = ap (λ holders. holder_in holders lock) s.holders in
    elim (use_turns id.thread s.how state.holders lock) [
      | inl took ↦ inl (s.at ∙ took.0, acquire_finds_free state s.how lock took.0 s.allowed, now ∙ took.1)
      | inr (inl freed) ↦ inr (inl (s.at ∙ freed.0, now ∙ freed.1))
      | inr (inr left) ↦ inr (inr ((λ takes. left.0 (sym s.at ∙ takes)), (λ gives. left.1 (sym s.at ∙ gives)), now ∙ left.2))
    ]

-- a thread that acquired the lock later on
acquired_later : (window : WindowForm) (id : EventId) (ids : List EventId) (lock : List ℕ) (thread : ℕ)
    → IsAcquiredLast window ids lock thread → IsAcquiredLast window (id ∷ ids) lock thread
acquired_later window id ids lock thread a = (id ∷ a.0, a.1, a.2, ap (λ rest. id ∷ rest) a.3, a.4, a.5, a.6)

-- the holder acquired the lock, or held it before
pub holder_acquired : (window : WindowForm) (before last : State) (ids : List EventId) (lock : List ℕ) (thread : ℕ)
    → Runs window before ids last → holder_of last lock ≡ Some thread → Holds window before ids lock thread
holder_acquired window before last [] lock thread r holds = inl (ap (λ t. holder_of t lock) (sym r) ∙ holds, tt)
holder_acquired window before last (id ∷ ids) lock thread r holds =
    elim (holder_acquired window r.0 last ids lock thread r.2 holds) [
      | inr acquired ↦ inr (acquired_later window id ids lock thread acquired)
      | inl held ↦ elim (step_turns window before r.0 id lock r.1) [
        | inl took ↦ inr ([], id, ids, refl, (let same : ◌≡◌ {A = Option ℕ} (Some id.thread) (Some thread) = sym took.2 ∙ held.0 in cc), took.0, held.1)
        | inr (inl freed) ↦ (let bad : ◌≡◌ {A = Option ℕ} None (Some thread) = sym freed.1 ∙ held.0 in cc)
        | inr (inr left) ↦ inl (sym left.2 ∙ held.0, (left.1, held.1))
      ]
    ]

-- a thread that holds a lock keeps it while nobody releases it
kept_holder : (window : WindowForm) (before last : State) (ids : List EventId) (lock : List ℕ) (thread : ℕ)
    → Runs window before ids last → holder_of before lock ≡ Some thread → NoneReleases window ids lock → holder_of last lock ≡ Some thread
kept_holder window before last [] lock thread r held none = ap (λ t. holder_of t lock) r ∙ held
kept_holder window before last (id ∷ ids) lock thread r held none =
    elim (step_turns window before r.0 id lock r.1) [
      | inl took ↦ (let bad : ◌≡◌ {A = Option ℕ} None (Some thread) = sym took.1 ∙ held in cc)
      | inr (inl freed) ↦ absurd (none.0 freed.0)
      | inr (inr left) ↦ kept_holder window r.0 last ids lock thread r.2 (left.2 ∙ held) none.1
    ]

-- a thread that acquires a lock holds it after its step
pub acquirer_holds : (window : WindowForm) (state middle : State) (id : EventId) (lock : List ℕ)
    → next window state id ≡ Ok middle → Takes window Exclusive id lock → holder_of middle lock ≡ Some id.thread
acquirer_holds window state middle id lock e acquires =
    elim (step_turns window state middle id lock e) [
      | inl took ↦ took.2
      | inr (inl freed) ↦ (let bad : ◌≡◌ {A = Option LockUse} (Some (Take Exclusive lock)) (Some (GiveBack Exclusive lock)) = sym acquires ∙ freed.0 in cc)
      | inr (inr left) ↦ absurd (left.0 acquires)
    ]

-- a thread that acquired the lock, or held it before, and has not released it, is the holder
pub acquirer_is_holder : (window : WindowForm) (before last : State) (ids prefix : List EventId) (id : EventId) (back : List EventId) (lock : List ℕ) (thread : ℕ)
    → Runs window before ids last → ids ≡ prefix ++ id ∷ back → id.thread ≡ thread → Takes window Exclusive id lock → NoneReleases window back lock
    → holder_of last lock ≡ Some thread
acquirer_is_holder window before last ids prefix id back lock thread r is own acquires none =
    let split = runs_split window before last prefix (id ∷ back) (subst (λ all. Runs window before all last) is r) in
    let held = acquirer_holds window split.0 split.2.0 id lock split.2.1 acquires in
    kept_holder window split.2.0 last back lock thread split.2.2 (held ∙ ap Some own) none

pub holds_is_holder : (window : WindowForm) (before last : State) (ids : List EventId) (lock : List ℕ) (thread : ℕ)
    → Runs window before ids last → Holds window before ids lock thread → holder_of last lock ≡ Some thread
holds_is_holder window before last ids lock thread r (inl held) = kept_holder window before last ids lock thread r held.0 held.1
holds_is_holder window before last ids lock thread r (inr a) =
    acquirer_is_holder window before last ids a.0 a.1 a.2 lock thread r a.3 a.4 a.5 a.6
