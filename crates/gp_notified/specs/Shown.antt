-- What shows an instance where threads wait for signals, and the lines that tell it.
use Rattle.std.specs.Prelude.{ℕ, List, [], ◌∷◌, ◌++◌, codes, decimal, flat_map, length, map}
use Rattle.gp_notify.specs.declared.pair.Pair.{Pair}
use Rattle.gp_notify.specs.Signalled.{IsSignalled}
use Rattle.gp_property.specs.PropertyForm.{PropertyForm}
use Rattle.gp_window.specs.declared.schedule.EventId.{EventId}
use Rattle.gp_window.specs.EventIds.{event_id_text}
use Rattle.gp_window.specs.WindowForm.{WindowForm}
use Rattle.gp_writer.specs.Lines.{in_lines}
use Rattle.gp_report.specs.Printed.{schedule_lines}
use Rattle.gp_patterns.specs.Answered.{IsShown as IsShownBySchedule}
use Rattle.gp_notified.specs.declared.paired.Paired.{Paired}

-- found: the schedule is feasible and matches the instance, and the pairs are signalled with it
pub record IsShown (window : WindowForm) (property : PropertyForm) (ids : List EventId) (paired : Paired) : Type 0 where
  pub schedule : IsShownBySchedule window property ids paired.schedule.events
  pub signalled : IsSignalled window paired.schedule.events paired.pairs

-- the events of pairs: each wake, and behind it its signal
abbrev pub events_of : List Pair → List EventId
events_of pairs = flat_map (λ (pair : Pair). pair.wake ∷ pair.signal ∷ []) pairs

-- how many pairs there are, then their events
abbrev pub pairs_lines : List Pair → List (List (List ℕ))
pairs_lines pairs = (codes "pairs" ∷ decimal (length pairs) ∷ []) ∷ in_lines (map event_id_text (events_of pairs))

-- the schedule, then the pairs
abbrev pub paired_lines : Paired → List (List (List ℕ))
paired_lines paired = schedule_lines paired.schedule ++ pairs_lines paired.pairs
