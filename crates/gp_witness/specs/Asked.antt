-- What the query of an instance says of the events.
use Rattle.std.specs.Prelude.{◌≡◌, ◌≢◌, ◌≤◌, ◌-◌, ◌⊎◌, ◌<ℤ◌, ◌≤ℤ◌, ◌-ℤ◌, pos, true, List, [], ◌∷◌, length, Contains}
use Rattle.std.specs.List.{AllByRecursion}
use Rattle.gp_property.specs.PropertyForm.{PropertyForm}
use Rattle.gp_instance.specs.Matches.{groups_of}
use Rattle.gp_window.specs.declared.schedule.EventId.{EventId}
use Rattle.gp_window.specs.WindowForm.{WindowForm}
use Rattle.gp_constraint.specs.PointLaws.{IsEventOf}
use Rattle.gp_witness.specs.Meaning.{Truth}

-- each event of a step comes before each event of the next; these, of the step before, come before the first
abbrev pub StepsFollow : Truth → List EventId → List (List EventId) → Type 0
StepsFollow t before [] = Unit {0}
StepsFollow t before (group ∷ groups) =
    ((one other : EventId) → Contains before one → Contains group other → t.place one <ℤ t.place other) × StepsFollow t group groups

-- the places of a group of n events lie within n - 1
abbrev pub IsNear : Truth → List EventId → Type 0
IsNear t group = (one other : EventId) → Contains group one → Contains group other → (t.place one -ℤ t.place other) ≤ℤ pos (length group - 1)

-- each event of a group of two and more comes before or after each other event of the window
abbrev pub IsDecided : WindowForm → Truth → List EventId → Type 0
IsDecided window t group = 2 ≤ length group → (one other : EventId) → Contains group one → IsEventOf window other → one ≢ other
    → (t.place one <ℤ t.place other) ⊎ (t.place other <ℤ t.place one)

-- what the query asks: the events are executed, the steps follow one another, and the groups stand together
pub record MeetsQuery (window : WindowForm) (t : Truth) (property : PropertyForm) (events : List EventId) : Type 0 where
  pub executed : (e : EventId) → Contains events e → t.executed e ≡ true
  pub follow : StepsFollow t [] (groups_of property.pattern events)
  pub near : AllByRecursion (IsNear t) (groups_of property.pattern events)
  pub decided : AllByRecursion (IsDecided window t) (groups_of property.pattern events)
