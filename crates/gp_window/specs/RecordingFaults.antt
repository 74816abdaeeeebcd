-- How a fault of a recording stands against what is due.
use Rattle.std.specs.Prelude.{◌≡◌, Result, Err}
use Rattle.gp_window.specs.declared.fault.RecordingFault.{RecordingFault}
use Rattle.gp_window.specs.declared.fault.RecordingFault.TheVariants.{Memory}

-- a fault that was told is the one that is due; want of memory says nothing
abbrev pub IsDue : {A : Type 0} → Result A RecordingFault → RecordingFault → Type 0
IsDue due Memory = Unit {0}
IsDue due fault = due ≡ Err fault
