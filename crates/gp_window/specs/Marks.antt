-- No lock is contested over a mark.
use Rattle.std.specs.Prelude.{ℕ, zero, suc, ◌+◌, ◌-◌, List, Option, Some, None, Result, Ok, Err}
use Rattle.gp_trace.specs.Trace.{LocalTraceForm}
use Rattle.gp_window.specs.declared.fault.RecordingFault.{RecordingFault}
use Rattle.gp_window.specs.declared.fault.RecordingFault.TheVariants.{TwoHolders}
use Rattle.gp_window.specs.Contested.{first_contested}
use Rattle.gp_window.specs.Holders.{held_over}

-- the fault of a lock that is contested over the mark before window k; else what comes later
abbrev pub unless_contested : ℕ → Option (List ℕ) → Result (Unit {0}) RecordingFault → Result (Unit {0}) RecordingFault
unless_contested k (Some lock) later = Err (TwoHolders lock k)
unless_contested k None later = later

-- the first mark over which a lock is contested, of so many marks after those passed
abbrev pub after_marks_from : List LocalTraceForm → ℕ → ℕ → Result (Unit {0}) RecordingFault
after_marks_from traces passed zero = Ok tt
after_marks_from traces passed (suc more) =
    unless_contested (passed + 2) (first_contested (held_over traces (passed + 1))) (after_marks_from traces (passed + 1) more)

-- no lock is contested over a mark of so many epochs; else the least window and in it the least lock
abbrev pub after_marks : ℕ → List LocalTraceForm → Result (Unit {0}) RecordingFault
after_marks epochs traces = after_marks_from traces 0 (epochs - 1)
