-- When the problem of a window with its signals is due, and which windows are left out.
use Rattle.std.specs.Prelude.{ℕ, List, [], ◌∷◌, Option, Some, None, Result, Ok, Err, flat_map}
use Rattle.gp_constraint.specs.declared.fault.BaseFault.{BaseFault}
use Rattle.gp_constraint.specs.Encoded.{base_due}
use Rattle.gp_notify.specs.declared.fault.NotifyFault.{NotifyFault}
use Rattle.gp_notify.specs.declared.fault.NotifyFault.TheVariants as notify
use Rattle.gp_notify.specs.NotifyProblem.{fault_of, notify_due}
use Rattle.gp_window.specs.RecordingForm.{RecordingForm}
use Rattle.gp_window.specs.WindowForm.{WindowForm}
use Rattle.gp_window.specs.Windows.{all_windows}
use Rattle.gp_analysis.specs.declared.question.LeftOut.{LeftOut}
use Rattle.gp_analysis.specs.declared.question.LeftOut.TheVariants.{TooLarge, Unasked}
use Rattle.gp_notified.specs.declared.report.Unpaired.{Unpaired}

-- what is due for a window that has constraints is what is due with its signals
abbrev pub with_signals : Result WindowForm BaseFault → Result WindowForm NotifyFault
with_signals (Ok window) = notify_due window
with_signals (Err fault) = Err (fault_of fault)

-- what is due for a window: that its own constraints are too large, then that a wake has no sleep, then that the constraints are
-- too large with those of its signals
abbrev pub signals_due : WindowForm → Result WindowForm NotifyFault
signals_due window = with_signals (base_due window)

-- why a window is left out: its constraints are too large, or a wake of it has no sleep
abbrev pub left_out_by : Result WindowForm NotifyFault → Option LeftOut
left_out_by (Ok window) = None
left_out_by (Err (notify.Unpaired wake)) = Some Unasked
left_out_by (Err (notify.TooLarge events clauses)) = Some (TooLarge (record { events = events; clauses = clauses }))
left_out_by (Err notify.Memory) = Some (TooLarge (record { events = 0; clauses = 0 }))

-- a window with this number, where it is left out since a wake has no sleep
abbrev pub unpaired_by : ℕ → Result WindowForm NotifyFault → List Unpaired
unpaired_by number (Ok window) = []
unpaired_by number (Err (notify.Unpaired wake)) = record { window = number; wake = wake } ∷ []
unpaired_by number (Err (notify.TooLarge events clauses)) = []
unpaired_by number (Err notify.Memory) = []

abbrev pub unpaired_in : WindowForm → List Unpaired
unpaired_in window = unpaired_by window.number (signals_due window)

-- the windows of a recording that are left out since a wake has no sleep, in order, each with its first such wake
abbrev pub unpaired_of : RecordingForm → List Unpaired
unpaired_of recording = flat_map unpaired_in (all_windows recording)
