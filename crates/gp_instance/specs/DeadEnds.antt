-- Dead ends of a search: what is left for the last atoms of a pattern, where no choice of it completes an instance.
use Rattle.std.specs.Prelude.{ℕ, ◌≡◌, ◌-◌, List, [], drop, length}
use Rattle.gp_trace.specs.declared.event.Event.{Event}
use Rattle.gp_window.specs.declared.schedule.EventId.{EventId}
use Rattle.gp_property.specs.declared.atoms.PatternAtom.{PatternAtom}
use Rattle.gp_instance.specs.Search.{search}

-- the last so many atoms of a pattern
abbrev pub last_of : ℕ → List PatternAtom → List PatternAtom
last_of count atoms = drop (length atoms - count) atoms

-- of these events for the last atoms of a pattern, the search makes nothing
abbrev pub IsDeadEnd : List (List Event) → List PatternAtom → List (List EventId) → Type 0
IsDeadEnd segments atoms domains = search segments (last_of (length domains) atoms) domains ≡ []
