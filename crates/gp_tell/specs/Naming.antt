-- How the events of a window are named in a sentence.
use Rattle.std.specs.Prelude.{ℕ, List}
use Rattle.gp_place.specs.Places.{named}
use Rattle.gp_window.specs.declared.schedule.EventId.{EventId}
use Rattle.gp_tell.specs.declared.naming.Naming.{Naming}

-- the name of an event: its id, with its place
unfoldable pub name_by : Naming → EventId → List ℕ
name_by naming event = named naming.places.now naming.window event
