-- Whether an instance is possible.
use Rattle.std.specs.Prelude.{◌≡◌, true, List}
use Rattle.gp_instance.specs.Matches.{matches_events}
use Rattle.gp_property.specs.PropertyForm.{PropertyForm}
use Rattle.gp_replay.specs.Feasible.{IsFeasible}
use Rattle.gp_window.specs.declared.schedule.EventId.{EventId}
use Rattle.gp_window.specs.WindowForm.{WindowForm}

-- some feasible schedule of the window matches the instance
abbrev pub IsPossible : WindowForm → PropertyForm → List EventId → Type 0
IsPossible window property ids = (schedule : List EventId) × IsFeasible window schedule × (matches_events property ids schedule ≡ true)
