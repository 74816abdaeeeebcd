-- Events by their ids: which are one, which stands first by thread and then index, and whether one is among others.
use Rattle.std.specs.Prelude.{◌≡◌, ◌⊎◌, ◌<◌, Bool, ◌==◌, ◌&&◌, ◌||◌, nat_lt, List}
use Rattle.std.specs.List.{list_any}
use Rattle.gp_window.specs.declared.schedule.EventId.{EventId}

-- whether two ids name one event
abbrev pub is_same : EventId → EventId → Bool
is_same one other = one.thread == other.thread && one.index == other.index

-- an event of a lesser thread, or of the same thread and a lesser index
abbrev pub IsLess : EventId → EventId → Type 0
IsLess one other = (one.thread < other.thread) ⊎ ((one.thread ≡ other.thread) × (one.index < other.index))

-- whether an event has a lesser thread, or the same thread and a lesser index
abbrev pub is_less : EventId → EventId → Bool
is_less one other = nat_lt one.thread other.thread || (one.thread == other.thread && nat_lt one.index other.index)

-- whether an event is one of these
abbrev pub contains_event : List EventId → EventId → Bool
contains_event events id = list_any (λ other. is_same other id) events
