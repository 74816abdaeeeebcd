-- Laws: where a thread stands after events is told part by part; well-formed events split at any place, and use locks well.
use Rattle.std.specs.Prelude.{◌≡◌, ℕ, if◌then◌else◌, List, [], ◌∷◌, ◌++◌, is_some, Option, Some, None}
use Rattle.std.proofs.Common.{refl, sym, ap, ◌∙◌, subst, append_assoc}
use Rattle.gp_trace.specs.declared.event.Event.{Event}
use Rattle.gp_trace.specs.declared.event.Event.TheVariants.{Start, Join, Begin, End}
use Rattle.gp_trace.specs.declared.fault.TraceFault.{TraceFault}
use Rattle.gp_trace.specs.declared.fault.TraceFault.TheVariants.{ReleaseUnheld, AcquireHeld}
use Rattle.gp_trace.specs.declared.lock_use.LockMode.{LockMode}
use Rattle.gp_trace.specs.declared.lock_use.LockMode.TheVariants.{Exclusive, Shared}
use Rattle.gp_trace.specs.declared.lock_use.LockUse.{LockUse}
use Rattle.gp_trace.specs.declared.lock_use.LockUse.TheVariants.{Take, GiveBack}
use Rattle.gp_trace.specs.declared.rules.Standing.{Standing}
use Rattle.gp_trace.specs.LockUse.{held_after_all, held_after_use, HeldLocks, IsGoodUse, lock_use_of, LocksAreUsedWell, mode_held}
use Rattle.gp_trace.specs.Rules.{after, after_all, AreWellFormed, at_first, fault_of, is_held_as, lock_fault}
use Rattle.gp_trace.specs.Trace.{in_order}

-- well-formed events are well formed up to any place, and from there on
pub formed_split : (thread : ℕ) (s : Standing) (prefix rest : List Event) → AreWellFormed thread s (prefix ++ rest)
    → AreWellFormed thread s prefix × AreWellFormed thread (after_all s prefix) rest
formed_split thread s [] rest formed = (tt, formed)
formed_split thread s (event ∷ prefix) rest formed =
    let parts = formed_split thread (after s event) prefix rest formed.1 in ((formed.0, parts.0), parts.1)

-- where a thread stands after events, and then further ones
pub after_both : (s : Standing) (first second : List Event) → after_all s (first ++ second) ≡ after_all (after_all s first) second
after_both s [] second = refl
after_both s (event ∷ first) second = after_both (after s event) first second

-- events that use locks well do so up to any place, and from there on
pub used_well_split : (held : HeldLocks) (prefix rest : List Event) → LocksAreUsedWell held (prefix ++ rest)
    → LocksAreUsedWell held prefix × LocksAreUsedWell (held_after_all held prefix) rest
used_well_split held [] rest well = (tt, well)
used_well_split held (event ∷ prefix) rest well =
    let parts = used_well_split (held_after_use held (lock_use_of event)) prefix rest well.1 in ((well.0, parts.0), parts.1)

-- the locks that a thread holds change by the uses of its events alone
pub held_after_event : (s : Standing) (event : Event) → (after s event).held ≡ held_after_use s.held (lock_use_of event)
held_after_event s (Begin region) = refl
held_after_event s (End region) = refl
held_after_event s event = refl

-- and so along all of them
pub held_along : (s : Standing) (events : List Event) → (after_all s events).held ≡ held_after_all s.held events
held_along s [] = refl
held_along s (event ∷ events) = held_along (after s event) events ∙ ap (λ held. held_after_all held events) (held_after_event s event)

-- a fault that is there
abbrev IsThere : Option (ℕ → TraceFault) → Type 0
IsThere (Some fault) = Unit {0}
IsThere None = ⊥

abbrev no_fault : Option (ℕ → TraceFault)
no_fault = None

free : (held : Option LockMode) → (if is_some held then Some AcquireHeld else no_fault) ≡ None → held ≡ None
free None is = refl
free (Some mode) is = absurd (subst IsThere is tt)

held_so : (mode : LockMode) (held : Option LockMode) → (if is_held_as mode held then no_fault else Some ReleaseUnheld) ≡ None → held ≡ Some mode
held_so Exclusive None is = absurd (subst IsThere is tt)
held_so Exclusive (Some Exclusive) is = refl
held_so Exclusive (Some Shared) is = absurd (subst IsThere is tt)
held_so Shared None is = absurd (subst IsThere is tt)
held_so Shared (Some Exclusive) is = absurd (subst IsThere is tt)
held_so Shared (Some Shared) is = refl

-- a use of a lock without a fault is a good one
pub good_use : (held : HeldLocks) (lock_use : Option LockUse) → lock_fault held lock_use ≡ None → IsGoodUse held lock_use
good_use held None is = tt
good_use held (Some (Take mode lock)) is = free (mode_held held lock) is
good_use held (Some (GiveBack mode lock)) is = held_so mode (mode_held held lock) is

event_good : (thread : ℕ) (s : Standing) (event : Event) → fault_of thread s event ≡ None → IsGoodUse s.held (lock_use_of event)
event_good thread s (Start other) is = tt
event_good thread s (Join other) is = tt
event_good thread s (End region) is = tt
event_good thread s event is = good_use s.held (lock_use_of event) is

-- well-formed events use locks well
pub used_well : (thread : ℕ) (s : Standing) (events : List Event) → AreWellFormed thread s events → LocksAreUsedWell s.held events
used_well thread s [] formed = tt
used_well thread s (event ∷ events) formed = (
  event_good thread s event formed.0,
  subst (λ (held : HeldLocks). LocksAreUsedWell held events) (held_after_event s event) (used_well thread (after s event) events formed.1),
)

-- the events of segments, and then of further ones
pub in_order_append : (prefix rest : List (List Event)) → in_order (prefix ++ rest) ≡ in_order prefix ++ in_order rest
in_order_append [] rest = refl
in_order_append (segment ∷ prefix) rest =
    ap (λ events. segment ++ events) (in_order_append prefix rest) ∙ sym (append_assoc segment (in_order prefix) (in_order rest))

-- each segment of a trace uses locks well, begun with those that are held after the segments before it
pub segment_uses_well : (thread : ℕ) (prefix : List (List Event)) (segment : List Event) (rest : List (List Event))
    → AreWellFormed thread at_first (in_order (prefix ++ segment ∷ rest)) → LocksAreUsedWell (held_after_all [] (in_order prefix)) segment
segment_uses_well thread prefix segment rest formed =
    let all = subst (λ (events : List Event). AreWellFormed thread at_first events) (in_order_append prefix (segment ∷ rest)) formed in
    let from_here = (formed_split thread at_first (in_order prefix) (segment ++ in_order rest) all).1 in
    let here = (formed_split thread (after_all at_first (in_order prefix)) segment (in_order rest) from_here).0 in
    subst (λ (held : HeldLocks). LocksAreUsedWell held segment) (held_along at_first (in_order prefix))
    (used_well thread (after_all at_first (in_order prefix)) segment here)
