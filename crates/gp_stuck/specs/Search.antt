-- The search for cycles: a chain of events, each waiting for the next, is given up as soon as no event can follow.
use Rattle.std.specs.Prelude.{ℕ, zero, suc, Bool, true, false, ◌&&◌, nat_lt, List, [], ◌∷◌, ◌++◌, Option, Some, filter, length, map, if◌then◌else◌}
use Rattle.gp_trace.specs.declared.lock_use.LockUse.{LockUse}
use Rattle.gp_trace.specs.declared.lock_use.LockUse.TheVariants.{Take}
use Rattle.gp_instance.specs.Instances.{ids_of}
use Rattle.gp_replay.specs.LockUses.{use_at}
use Rattle.std.specs.List.{flat_map, list_all}
use Rattle.gp_window.specs.declared.schedule.EventId.{EventId}
use Rattle.gp_window.specs.WindowForm.{WindowForm}
use Rattle.gp_stuck.specs.Cycle.{are_apart, may_be_next, waits_for}

-- whether an event may follow the last one of a chain: of a greater thread than the first one, and of none of those
-- passed since, it can be its thread's next one, and the last one waits for it
abbrev pub may_follow : WindowForm → EventId → List EventId → EventId → EventId → Bool
may_follow window first passed last id =
    nat_lt first.thread id.thread && (list_all (λ other. are_apart other id) passed && (may_be_next window id && waits_for window last id))

-- nothing more, where some events have passed since the first, and the last waits for the first
abbrev pub closed : WindowForm → EventId → List EventId → EventId → List (List EventId)
closed window first passed last = if nat_lt 0 (length passed) && waits_for window last first then [] ∷ [] else []

-- the lists of up to so many of these events that make a chain a cycle
abbrev pub completions : WindowForm → List EventId → EventId → List EventId → EventId → ℕ → List (List EventId)
completions window ids first passed last zero = closed window first passed last
completions window ids first passed last (suc more) =
    closed window first passed last
    ++ flat_map (λ id. map (λ rest. id ∷ rest) (completions window ids first (passed ++ id ∷ []) id more)) (filter (may_follow window first passed last) ids)

-- the cycles that begin with this event
abbrev pub cycles_from : WindowForm → List EventId → EventId → List (List EventId)
cycles_from window ids first = map (λ rest. first ∷ rest) (completions window ids first [] first 3)

-- whether a use takes a lock
abbrev pub is_take : Option LockUse → Bool
is_take (Some (Take mode lock)) = true
is_take _ = false

-- whether the event takes a lock
abbrev pub takes_lock : WindowForm → EventId → Bool
takes_lock window id = is_take (use_at window id)

-- the events of a window that take locks
abbrev pub takers_of : WindowForm → List EventId
takers_of window = filter (takes_lock window) (ids_of window.segments)

-- the lists of events that take locks which go on with this one, and make a chain a cycle
abbrev pub going_on : WindowForm → EventId → List EventId → ℕ → EventId → List (List EventId)
going_on window first passed fewer id = map (λ rest. id ∷ rest) (completions window (takers_of window) first (passed ++ id ∷ []) id fewer)

-- all that the search finds
abbrev pub found_cycles : WindowForm → List (List EventId)
found_cycles window = flat_map (cycles_from window (takers_of window)) (filter (may_be_next window) (takers_of window))
