-- The locks that a thread holds when the window begins, put into a table, are told as the window tells them.
use Rattle.std.proofs.Common.{ℕ, ◌≡◌, ap, sym, ◌∙◌, refl, subst, inl, inr, Bool, true, false, List, [], ◌∷◌}
use Rattle.std.specs.Prelude.{Option, Some, None, ◌==◌, if◌then◌else◌}
use Rattle.std.specs.BTreeMap.{is_at}
use Rattle.std.specs.Cmp.Lexicographic.{slice_cmp}
use Rattle.std.specs.Ordering.{nat_cmp}
use Rattle.std.proofs.lemmas.Bool.{cases_Bool, eq-eqb, eqb-true, false_from_ne_true, false≢true}
use Rattle.gp_base.specs.Table.{with_entry}
use Rattle.gp_base.specs.TableLaws.{put_apart, put_here, same_or_apart}
use Rattle.gp_trace.specs.declared.lock_use.LockMode.{LockMode}
use Rattle.gp_trace.specs.declared.lock_use.LockMode.TheVariants.{Exclusive, Shared}
use Rattle.gp_trace.specs.LockUse.{HeldLocks, mode_held}
use Rattle.gp_window.specs.Formed.{IsFormed, mode_at_start, stands_at}
use Rattle.gp_window.specs.Holders.{Holding, Holdings, holder_cmp, holders_among, readers_among}
use Rattle.gp_window.specs.HoldersLaws.{found_is_same, found_itself, stands_to}
use Rattle.gp_window.specs.WindowForm.{WindowForm}
use Rattle.gp_stuck.specs.Noted.{with_all_own, with_own}

-- how a lock is held after one more that is held, and after all of these
abbrev after_one : List ℕ → ℕ → Option LockMode → Holding → Option LockMode
after_one lock thread before holding = if is_at (holder_cmp (lock, thread)) holding.0 then Some holding.1 else before

abbrev after_all : List ℕ → ℕ → Option LockMode → Holdings → Option LockMode
after_all lock thread before [] = before
after_all lock thread before (holding ∷ holdings) = after_all lock thread (after_one lock thread before holding) holdings

-- what is put in is told at its lock alone
one_told : (lock : List ℕ) (thread : ℕ) (held : HeldLocks) (holding : Holding)
    → mode_held (with_own thread held holding) lock ≡ after_one lock thread (mode_held held lock) holding
one_told lock thread held ((name, holder), mode) =
    elim (cases_Bool (is_at (holder_cmp (lock, thread)) (name, holder))) [
      | inl here ↦
          let same = found_is_same lock thread (name, holder) here in
          let own : (holder == thread) ≡ true = eq-eqb holder thread (sym same.1) in
          rw (own, here) (subst (λ n. mode_held (with_entry (slice_cmp nat_cmp) held name mode) n ≡ Some mode) (sym same.0) (put_here held name mode))
      | inr off ↦
          elim (cases_Bool (holder == thread)) [
            | inl own ↦ elim (same_or_apart lock name) [
              | inl is ↦ absurd (false≢true (sym off ∙ place lock name thread holder is (eqb-true holder thread own)))
              | inr apart ↦ rw (own, off) (put_apart held name lock mode apart)
            ]
            | inr other ↦ rw (other, off) refl
          ]
    ]
  where
    place : (one name : List ℕ) (first holder : ℕ) → one ≡ name → holder ≡ first → is_at (holder_cmp (one, first)) (name, holder) ≡ true
    place one name first holder is same =
        subst (λ n. is_at (holder_cmp (n, first)) (name, holder) ≡ true) (sym is) (subst (λ t. is_at (holder_cmp (name, t)) (name, holder) ≡ true) same (found_itself (name, holder)))

all_told : (lock : List ℕ) (thread : ℕ) (held : HeldLocks) (holdings : Holdings)
    → mode_held (with_all_own thread held holdings) lock ≡ after_all lock thread (mode_held held lock) holdings
all_told lock thread held [] = refl
all_told lock thread held (holding ∷ holdings) =
    all_told lock thread (with_own thread held holding) holdings
    ∙ ap (λ before. after_all lock thread before holdings) (one_told lock thread held holding)

-- how a lock is held by who holds it alone and who reads it, or as before
abbrev mode_or : Bool → Bool → Option LockMode → Option LockMode
mode_or alone reads before = if alone then Some Exclusive else (if reads then Some Shared else before)

-- a lock is held as the holders and the readers among these say, where they do not both
sorted : (lock : List ℕ) (thread : ℕ) (before : Option LockMode) (holdings : Holdings)
    → (stands_at (holders_among holdings) lock thread ≡ true → stands_at (readers_among holdings) lock thread ≡ true → ⊥)
    → after_all lock thread before holdings ≡ mode_or (stands_at (holders_among holdings) lock thread) (stands_at (readers_among holdings) lock thread) before
sorted lock thread before [] one = refl
sorted lock thread before ((place, Exclusive) ∷ holdings) one =
    elim (cases_Bool (is_at (holder_cmp (lock, thread)) place)) [
      | inl here ↦
          let alone : stands_at (readers_among holdings) lock thread ≡ false = false_from_ne_true _ (λ reads. one (rw here refl) reads) in
          let rest = sorted lock thread (Some Exclusive) holdings (λ holds reads. false≢true (sym alone ∙ reads)) in
          rw here (rest ∙ ap (λ b. mode_or (stands_at (holders_among holdings) lock thread) b (Some Exclusive)) alone ∙ either (stands_at (holders_among holdings) lock thread))
      | inr off ↦ rw off (sorted lock thread before holdings (λ holds reads. one (rw off holds) reads))
    ]
  where
    either : (b : Bool) → mode_or b false (Some Exclusive) ≡ Some Exclusive
    either true = refl
    either false = refl
sorted lock thread before ((place, Shared) ∷ holdings) one =
    elim (cases_Bool (is_at (holder_cmp (lock, thread)) place)) [
      | inl here ↦
          let alone : stands_at (holders_among holdings) lock thread ≡ false = false_from_ne_true _ (λ holds. one holds (rw here refl)) in
          let rest = sorted lock thread (Some Shared) holdings (λ holds reads. false≢true (sym alone ∙ holds)) in
          rw here (rest ∙ ap (λ b. mode_or b (stands_at (readers_among holdings) lock thread) (Some Shared)) alone ∙ either (stands_at (readers_among holdings) lock thread)
          ∙ sym (ap (λ b. mode_or b true before) alone))
      | inr off ↦ rw off (sorted lock thread before holdings (λ holds reads. one holds (rw off reads)))
    ]
  where
    either : (b : Bool) → mode_or false b (Some Shared) ≡ Some Shared
    either true = refl
    either false = refl

-- so is each lock of a formed window
pub own_told : (w : WindowForm) → IsFormed w → (holdings : Holdings) → holders_among holdings ≡ w.holders → readers_among holdings ≡ w.readers
    → (thread : ℕ) (lock : List ℕ) → mode_held (with_all_own thread [] holdings) lock ≡ mode_at_start w thread lock
own_told w formed holdings alone reads thread lock =
    let one : stands_at w.holders lock thread ≡ true → stands_at w.readers lock thread ≡ true → ⊥ =
    λ holds read. formed.alone lock thread thread (stands_to w.holders lock thread holds) (stands_to w.readers lock thread read) in
    all_told lock thread [] holdings
    ∙ sorted lock thread None holdings (λ holds read.
    one (subst (λ pairs. stands_at pairs lock thread ≡ true) alone holds) (subst (λ pairs. stands_at pairs lock thread ≡ true) reads read))
    ∙ ap (λ pairs. mode_or (stands_at pairs lock thread) (stands_at (readers_among holdings) lock thread) None) alone
    ∙ ap (λ pairs. mode_or (stands_at w.holders lock thread) (stands_at pairs lock thread) None) reads
