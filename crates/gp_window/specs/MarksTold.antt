-- The marks of a recording in plain words: over which of them two threads hold a lock, and which fault is told.
use Rattle.std.specs.Prelude.{ℕ, ◌≡◌, ◌≢◌, ◌↔◌, ◌<◌, ◌≤◌, ◌-◌, List, Contains, Ok, Err}
use Rattle.std.specs.declared.cmp.Ordering.TheVariants.{Less}
use Rattle.std.specs.Cmp.Lexicographic.{slice_cmp}
use Rattle.std.specs.Ordering.{nat_cmp}
use Rattle.gp_trace.specs.declared.lock_use.LockMode.{LockMode}
use Rattle.gp_trace.specs.declared.lock_use.LockMode.TheVariants.{Exclusive}
use Rattle.gp_trace.specs.Trace.{LocalTraceForm}
use Rattle.gp_window.specs.declared.fault.RecordingFault.{RecordingFault}
use Rattle.gp_window.specs.declared.fault.RecordingFault.TheVariants.{TwoHolders}
use Rattle.gp_window.specs.Holders.{held_over, Holdings}
use Rattle.gp_window.specs.Marks.{after_marks}

-- two threads hold a lock, not both of them as readers
abbrev pub TwoHold : Holdings → List ℕ → Type 0
TwoHold held lock =
    (one : ℕ) × (other : ℕ) × (mode : LockMode) × (one ≢ other) × Contains held ((lock, one), Exclusive) × Contains held ((lock, other), mode)

-- two threads hold a lock over the mark before a window
abbrev pub TwoHoldBefore : List LocalTraceForm → ℕ → List ℕ → Type 0
TwoHoldBefore traces window lock = TwoHold (held_over traces (window - 1)) lock

-- two threads hold a lock over the mark before a window, and that is the least window before which two hold one, and the least
-- lock there
pub record IsFirstHeld (epochs : ℕ) (traces : List LocalTraceForm) (lock : List ℕ) (window : ℕ) : Type 0 where
  pub within : (2 ≤ window) × (window ≤ epochs)
  pub held : TwoHoldBefore traces window lock
  pub first : (earlier : ℕ) (other : List ℕ) → 2 ≤ earlier → earlier < window → TwoHoldBefore traces earlier other → ⊥
  pub least : (other : List ℕ) → TwoHoldBefore traces window other → slice_cmp nat_cmp other lock ≡ Less → ⊥

-- the check of the marks tells exactly that lock and that window, and no fault exactly where two threads hold none over any
pub record MarksMean : Type 0 where
  pub first : (epochs : ℕ) (traces : List LocalTraceForm) (fault : RecordingFault)
      → (after_marks epochs traces ≡ Err fault) ↔ ((lock : List ℕ) × (window : ℕ) × (fault ≡ TwoHolders lock window) × IsFirstHeld epochs traces lock window)
  pub none : (epochs : ℕ) (traces : List LocalTraceForm)
      → (after_marks epochs traces ≡ Ok tt) ↔ ((window : ℕ) (lock : List ℕ) → 2 ≤ window → window ≤ epochs → TwoHoldBefore traces window lock → ⊥)
