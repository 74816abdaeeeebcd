-- A property whose pattern is still due.
use Rattle.std.specs.Prelude.{◌≡◌, ◌≤◌, ℕ, true, List, [], length}
use Rattle.std.specs.List.{AllByRecursion}
use Rattle.gp_text.specs.Name.{is_name}
use Rattle.gp_property.specs.declared.property.EventDef.{EventDef}
use Rattle.gp_property.specs.Property.{AreNewEvents, IsEvent}

-- what contracts see of a property that is begun: its name, and its events so far
pub record DraftForm : Type 0 where
  pub name : List ℕ
  pub events : List EventDef

-- the name and the events of a property of the language
pub record IsDraft (draft : DraftForm) : Type 0 where
  pub named : is_name draft.name ≡ true
  pub events : AllByRecursion IsEvent draft.events
  pub some_events : length draft.events ≤ 16
  pub new_events : AreNewEvents [] draft.events
