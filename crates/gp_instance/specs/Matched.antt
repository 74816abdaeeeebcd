-- Where a schedule matches an instance, in plain words: which events stand in it, which before which, and which in a row.
use Rattle.std.specs.Prelude.{◌≡◌, ◌↔◌, ◌<◌, ℕ, suc, true, List, Some, Contains, slice_get}
use Rattle.gp_base.specs.ListLaws.{AreDifferent}
use Rattle.gp_window.specs.declared.schedule.EventId.{EventId}
use Rattle.gp_property.specs.PropertyForm.{PropertyForm}
use Rattle.gp_instance.specs.Matches.{groups_of, matches_events}
use Rattle.gp_instance.specs.Rows.{StandsInRow}

-- an event stands at this place of a schedule, counted from 0
abbrev pub StandsAt : List EventId → ℕ → EventId → Type 0
StandsAt schedule place id = slice_get schedule place ≡ Some id

-- an event stands at one place of a schedule, and at no other
abbrev pub StandsOnce : List EventId → EventId → Type 0
StandsOnce schedule id = (place : ℕ) × StandsAt schedule place id × ((other : ℕ) → StandsAt schedule other id → other ≡ place)

-- both events stand in a schedule, the first of them before the other
abbrev pub StandsBefore : List EventId → EventId → EventId → Type 0
StandsBefore schedule one other = (place : ℕ) × (later : ℕ) × StandsAt schedule place one × StandsAt schedule later other × (place < later)

-- a schedule matches the events of an instance, which these steps have
pub record IsMatch (events : List EventId) (steps : List (List EventId)) (schedule : List EventId) : Type 0 where
  -- each event of the instance stands in the schedule, exactly once
  pub once : (id : EventId) → Contains events id → StandsOnce schedule id
  -- each event of a step stands before each event of the next step
  pub ordered : (k : ℕ) (step next : List EventId) → slice_get steps k ≡ Some step → slice_get steps (suc k) ≡ Some next
      → (one other : EventId) → Contains step one → Contains next other → StandsBefore schedule one other
  -- the events of a step stand side by side, in any order; one event does wherever it stands
  pub side_by_side : (step : List EventId) → Contains steps step → StandsInRow step schedule

-- a schedule in which no event stands twice passes the test of an instance exactly where it matches the instance's events, by the
-- steps of the pattern
abbrev pub MatchesMeans : Type 0
MatchesMeans = (property : PropertyForm) (events schedule : List EventId) → AreDifferent schedule
    → (matches_events property events schedule ≡ true) ↔ IsMatch events (groups_of property.pattern events) schedule
