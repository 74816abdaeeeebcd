-- A group that stands together, in plain words: somewhere in the schedule its events stand in a row, in some order.
use Rattle.std.specs.Prelude.{◌≡◌, ◌↔◌, true, List, ◌++◌, length, Contains}
use Rattle.gp_base.specs.ListLaws.{AreDifferent}
use Rattle.gp_window.specs.declared.schedule.EventId.{EventId}
use Rattle.gp_instance.specs.Matches.{stands_together}

-- the row has the events of the group, no others, and as many
pub record IsRow (group row : List EventId) : Type 0 where
  pub long : length row ≡ length group
  pub all : (id : EventId) → Contains group id → Contains row id
  pub none_else : (id : EventId) → Contains row id → Contains group id

-- somewhere the schedule has the events of the group in a row
abbrev pub StandsInRow : List EventId → List EventId → Type 0
StandsInRow group schedule =
    (front : List EventId) × (row : List EventId) × (back : List EventId) × (schedule ≡ front ++ (row ++ back)) × IsRow group row

-- in a schedule in which no event stands twice, a group stands together exactly where it stands in a row
abbrev pub GroupsStandInRows : Type 0
GroupsStandInRows = (group schedule : List EventId) → AreDifferent schedule
    → (stands_together group schedule ≡ true) ↔ StandsInRow group schedule
