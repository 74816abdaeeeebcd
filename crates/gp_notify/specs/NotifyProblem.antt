-- When the problem of a window with its signals is due, and what is kept of one.
use Rattle.std.specs.Prelude.{ℕ, ◌≡◌, ◌≤◌, ◌+◌, List, [], Option, Some, None, Result, Ok, Err, if◌then◌else◌, length, nat_lt}
use Rattle.gp_window.specs.WindowForm.{WindowForm}
use Rattle.gp_constraint.specs.declared.fault.BaseFault.{BaseFault}
use Rattle.gp_constraint.specs.declared.fault.BaseFault.TheVariants as base
use Rattle.gp_constraint.specs.declared.point.Point.{Point}
use Rattle.gp_constraint.specs.Base.{clauses_of}
use Rattle.gp_constraint.specs.Encoded.{IsEncodable}
use Rattle.gp_constraint.specs.Extension.{extension_of, ExtensionForm}
use Rattle.gp_constraint.specs.Points.{points_of}
use Rattle.gp_notify.specs.declared.fault.NotifyFault.{NotifyFault}
use Rattle.gp_notify.specs.declared.fault.NotifyFault.TheVariants.{Memory, TooLarge, Unpaired}
use Rattle.gp_notify.specs.CallTables.{AreCallTables}
use Rattle.gp_notify.specs.Signals.{signals_of, unpaired, wakes_of}

-- a fault of the problem of a window with further clauses, as one of its signals
abbrev pub fault_of : BaseFault → NotifyFault
fault_of (base.TooLarge events clauses) = TooLarge events clauses
fault_of base.Memory = Memory

-- where each wake has a sleep: the window, which has at most 500,000 clauses with its signals
abbrev pub paired_due : WindowForm → Result WindowForm NotifyFault
paired_due window =
    if nat_lt 500000 (length (clauses_of window) + length (signals_of window)) then Err (TooLarge (length (points_of window)) 500001) else Ok window

abbrev pub due_where : WindowForm → Option Point → Result WindowForm NotifyFault
due_where window (Some wake) = Err (Unpaired wake.id)
due_where window None = paired_due window

-- what is due for a window: the first wake without a sleep is told, and then that there are too many clauses
abbrev pub notify_due : WindowForm → Result WindowForm NotifyFault
notify_due window = due_where window (unpaired window)

-- a window without wakes keeps the problem that it has; else there is one with its signals
abbrev pub IsKept : WindowForm → Option ExtensionForm → Type 0
IsKept window None = wakes_of window ≡ []
IsKept window (Some extension) = extension ≡ extension_of window (signals_of window)

-- tables and the problem with signals are those of a window that is not too large with them, in which each wake has a sleep
pub record IsNotifyProblem (window : WindowForm) (wakes notifies : List Point) (wakers signals : List (List ℕ × List Point)) (extension : Option ExtensionForm) : Type 0 where
  pub encodable : IsEncodable window
  pub paired : unpaired window ≡ None
  pub fits : length (clauses_of window) + length (signals_of window) ≤ 500000
  pub tables : AreCallTables window wakes notifies wakers signals
  pub kept : IsKept window extension
