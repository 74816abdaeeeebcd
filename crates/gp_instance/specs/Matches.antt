-- Where a schedule matches an instance: its events are there, its steps follow one another, and each group stands together.
use Rattle.std.specs.Prelude.{ℕ, Bool, true, false, ◌==◌, ◌&&◌, ◌||◌, nat_lt, List, [], ◌∷◌, length, drop, take, position, Option, Some, None}
use Rattle.std.specs.List.{list_all}
use Rattle.gp_window.specs.declared.schedule.EventId.{EventId}
use Rattle.gp_window.specs.Ids.{contains_event, is_same}
use Rattle.gp_property.specs.declared.property.PatternStep.{PatternStep}
use Rattle.gp_property.specs.PropertyForm.{PropertyForm}

-- the events of an instance by step
abbrev pub groups_of : List PatternStep → List EventId → List (List EventId)
groups_of [] events = []
groups_of (step ∷ steps) events = take (length step.atoms) events ∷ groups_of steps (drop (length step.atoms) events)

-- the place, from 0, at which an event stands in a schedule
abbrev pub place_of : List EventId → EventId → Option ℕ
place_of schedule id = position (λ other. is_same other id) schedule

-- one place is before another, and both are there
abbrev pub is_before : Option ℕ → Option ℕ → Bool
is_before None later = false
is_before (Some earlier) None = false
is_before (Some earlier) (Some later) = nat_lt earlier later

-- this event stands before each of those
abbrev pub is_before_all : List EventId → EventId → List EventId → Bool
is_before_all schedule one later = list_all (λ other. is_before (place_of schedule one) (place_of schedule other)) later

-- each of these events stands before each of those
abbrev pub all_before : List EventId → List EventId → List EventId → Bool
all_before schedule earlier later = list_all (λ one. is_before_all schedule one later) earlier

-- each event of a step stands before each event of the next one, and these events, of the step before, stand before the first
abbrev pub follow : List EventId → List EventId → List (List EventId) → Bool
follow schedule before [] = true
follow schedule before (group ∷ groups) = all_before schedule before group && follow schedule group groups

-- as many events as the group has, at the beginning of a schedule, are all of the group
abbrev pub begins_with_group : List EventId → List EventId → Bool
begins_with_group group schedule =
    length (take (length group) schedule) == length group && list_all (contains_event group) (take (length group) schedule)

-- the events of a group stand at as many neighbouring places, in any order: somewhere as many events, one after another, are all of the group
abbrev pub stands_together : List EventId → List EventId → Bool
stands_together group [] = begins_with_group group []
stands_together group (first ∷ rest) = begins_with_group group (first ∷ rest) || stands_together group rest

-- a schedule, in which no event stands twice, matches the events of an instance, one for each atom
abbrev pub matches_events : PropertyForm → List EventId → List EventId → Bool
matches_events property events schedule =
    list_all (contains_event schedule) events
    && follow schedule [] (groups_of property.pattern events)
    && list_all (λ group. stands_together group schedule) (groups_of property.pattern events)
