-- Laws: how a thread holds a lock by its own events, one after another.
use Rattle.std.proofs.Common.{ℕ, zero, suc, ◌≡◌, ◌⊎◌, ap, sym, ◌∙◌, refl, subst, inl, inr, List, [], ◌∷◌, true, false}
use Rattle.std.specs.Prelude.{Option, Some, None, slice_get, take}
use Rattle.std.specs.Str.{bytes_eq}
use Rattle.std.proofs.lemmas.Bool.{cases_Bool, false_from_ne_true, false≢true}
use Rattle.std.proofs.lemmas.Slice.Eq.{bytes_eq-Decides}
use Rattle.gp_base.specs.TableLaws.{dropped_apart, dropped_here, put_apart, put_here, same_or_apart}
use Rattle.gp_trace.specs.declared.event.Event.{Event}
use Rattle.gp_trace.specs.declared.lock_use.LockMode.{LockMode}
use Rattle.gp_trace.specs.declared.lock_use.LockUse.{LockUse}
use Rattle.gp_trace.specs.declared.lock_use.LockUse.TheVariants.{Take, GiveBack}
use Rattle.gp_trace.specs.LockUse.{held_after_all, held_after_use, HeldLocks, IsGoodUse, lock_use_of, LocksAreUsedWell, mode_held}
use Rattle.gp_window.specs.Modes.{mode_after, mode_after_use}

-- the test of two names
same_name : (name lock : List ℕ) → lock ≡ name → bytes_eq name lock ≡ true
same_name name lock same = (bytes_eq-Decides name lock).1 (sym same)

other_name : (name lock : List ℕ) → (lock ≡ name → ⊥) → bytes_eq name lock ≡ false
other_name name lock apart = false_from_ne_true (bytes_eq name lock) (λ e. apart (sym ((bytes_eq-Decides name lock).0 e)))

-- the table of the locks that are held tells the same after a use
pub mode_used : (held : HeldLocks) (lock_use : Option LockUse) (lock : List ℕ)
    → mode_held (held_after_use held lock_use) lock ≡ mode_after_use lock (mode_held held lock) lock_use
mode_used held None lock = refl
mode_used held (Some (Take mode name)) lock =
    elim (same_or_apart lock name) [
      | inl same ↦
          let test = same_name name lock same in
          rw test (subst (λ n. mode_held (held_after_use held (Some (Take mode name))) n ≡ Some mode) (sym same) (put_here held name mode))
      | inr apart ↦
          let test = other_name name lock apart in
          rw test (put_apart held name lock mode apart)
    ]
mode_used held (Some (GiveBack mode name)) lock =
    elim (same_or_apart lock name) [
      | inl same ↦
          let test = same_name name lock same in
          rw test (subst (λ n. mode_held (held_after_use held (Some (GiveBack mode name))) n ≡ None) (sym same) (dropped_here held name))
      | inr apart ↦
          let test = other_name name lock apart in
          rw test (dropped_apart held name lock apart)
    ]

-- and after events
pub modes_told : (held : HeldLocks) (events : List Event) (lock : List ℕ) → mode_held (held_after_all held events) lock ≡ mode_after lock (mode_held held lock) events
modes_told held [] lock = refl
modes_told held (event ∷ events) lock =
    modes_told (held_after_use held (lock_use_of event)) events lock ∙ ap (λ before. mode_after lock before events) (mode_used held (lock_use_of event) lock)

-- one event more
pub mode_next : (lock : List ℕ) (before : Option LockMode) (events : List Event) (n : ℕ) (event : Event) → slice_get events n ≡ Some event
    → mode_after lock before (take (suc n) events) ≡ mode_after_use lock (mode_after lock before (take n events)) (lock_use_of event)
mode_next lock before [] n event there = cc
mode_next lock before (first ∷ events) zero event there =
    let found : ◌≡◌ {A = Option Event} (Some first) (Some event) = there in
    let same : first ≡ event = cc in ap (λ e. mode_after_use lock before (lock_use_of e)) same
mode_next lock before (first ∷ events) (suc n) event there = mode_next lock (mode_after_use lock before (lock_use_of first)) events n event there

-- what an event gives back was held so
pub gave_held : (held : HeldLocks) (events : List Event) (n : ℕ) (event : Event) (mode : LockMode) (lock : List ℕ) → LocksAreUsedWell held events
    → slice_get events n ≡ Some event → lock_use_of event ≡ Some (GiveBack mode lock) → mode_after lock (mode_held held lock) (take n events) ≡ Some mode
gave_held held [] n event mode lock well there gives = cc
gave_held held (first ∷ events) zero event mode lock well there gives =
    let found : ◌≡◌ {A = Option Event} (Some first) (Some event) = there in
    let same : first ≡ event = cc in
    subst (λ u. IsGoodUse held u) (ap (λ e. lock_use_of e) same ∙ gives) well.0
gave_held held (first ∷ events) (suc n) event mode lock well there gives =
    subst (λ m. mode_after lock m (take n events) ≡ Some mode) (mode_used held (lock_use_of first) lock)
    (gave_held (held_after_use held (lock_use_of first)) events n event mode lock well.1 there gives)

-- a lock that is held after a use was taken by it so, or was held so before and is not given back
pub use_before : (lock : List ℕ) (before : Option LockMode) (lock_use : Option LockUse) (mode : LockMode) → mode_after_use lock before lock_use ≡ Some mode
    → (lock_use ≡ Some (Take mode lock)) ⊎ ((lock_use ≡ Some (GiveBack mode lock) → ⊥) × (before ≡ Some mode))
use_before lock before None mode e = inr ((λ gives. cc), e)
use_before lock before (Some (Take other name)) mode e =
    elim (cases_Bool (bytes_eq name lock)) [
      | inl same ↦
          let is : name ≡ lock = (bytes_eq-Decides name lock).0 same in
          let now : ◌≡◌ {A = Option LockMode} (Some other) (Some mode) = rw same at e in
          let one : other ≡ mode = cc in
          inl (λ i. Some (Take (one i) (is i)))
      | inr apart ↦ inr ((λ gives. cc), rw apart at e)
    ]
use_before lock before (Some (GiveBack other name)) mode e =
    elim (cases_Bool (bytes_eq name lock)) [
      | inl same ↦ (let bad : ◌≡◌ {A = Option LockMode} None (Some mode) = rw same at e in cc)
      | inr apart ↦ inr (
        (λ gives.
            let is : name ≡ lock = cc in
            false≢true (sym apart ∙ (bytes_eq-Decides name lock).1 is)),
        rw apart at e,
      )
    ]
