-- The ends of the threads of a window, and what shows that one is reached.
use Rattle.std.specs.Prelude.{ℕ, ◌-◌, ◌≡◌, ◌==◌, ◌&&◌, Bool, true, List, [], ◌∷◌, Option, Some, None, Result, Ok, Err, if◌then◌else◌, flat_map, is_ok, length, nat_lt}
use Rattle.std.specs.List.{list_all}
use Rattle.gp_clause.specs.declared.lit.Lit.{Lit}
use Rattle.gp_clause.specs.declared.problem.Query.{Query}
use Rattle.gp_constraint.specs.Encoded.{point_in}
use Rattle.gp_constraint.specs.PointLaws.{IsEventOf}
use Rattle.gp_constraint.specs.Points.{sizes_of}
use Rattle.gp_instance.specs.declared.instance.Instance.{Instance}
use Rattle.gp_instance.specs.declared.instance.InstancesFault.{InstancesFault}
use Rattle.gp_instance.specs.declared.instance.InstancesFault.TheVariants.{TooMany}
use Rattle.gp_replay.specs.Feasible.{IsFeasible, end_of}
use Rattle.gp_report.specs.declared.record.AnswerOf.{AnswerOf}
use Rattle.gp_report.specs.declared.record.AnswerOf.TheVariants.{Found}
use Rattle.gp_window.specs.declared.schedule.EventId.{EventId}
use Rattle.gp_window.specs.declared.schedule.Schedule.{Schedule}
use Rattle.gp_window.specs.Events.{size_of}
use Rattle.gp_window.specs.Ids.{contains_event}
use Rattle.gp_window.specs.WindowForm.{WindowForm, numbers_from}

-- an ask of one event, of the subject with this number
abbrev pub ask_of : ℕ → EventId → Instance
ask_of number id = record { property = number; events = id ∷ [] }

-- the ask of the last event of a thread, where the thread has events
abbrev pub end_in : WindowForm → ℕ → ℕ → List Instance
end_in window number thread =
    if size_of window thread == 0 then [] else ask_of number (record { thread = thread; index = size_of window thread - 1 }) ∷ []

-- the ask of each thread with events, in order of thread
abbrev pub ends_of : WindowForm → ℕ → List Instance
ends_of window number = flat_map (end_in window number) (numbers_from 1 (length window.segments))

-- asks, where they are at most 10,000
abbrev pub listed : List Instance → Result (List Instance) InstancesFault
listed asks = if nat_lt 10000 (length asks) then Err TooMany else Ok asks

-- these are one event of the window
pub record IsEnd (window : WindowForm) (ids : List EventId) : Type 0 where
  pub id : EventId
  pub one : ids ≡ id ∷ []
  pub there : IsEventOf window id

-- that the event of a point is executed, as a literal
abbrev pub executed_at : Option ℕ → List Lit
executed_at None = []
executed_at (Some point) = record { variable = point; positive = true } ∷ []

-- that an event of the window is executed
abbrev pub executed_in : WindowForm → EventId → List Lit
executed_in window id = executed_at (point_in (sizes_of window) id)

-- each of these events is executed
abbrev pub query_of : WindowForm → List EventId → Query
query_of window ids = record { locals = []; assumed = flat_map (executed_in window) ids }

-- the schedule is feasible, and has each of these events
pub record EndsAt (window : WindowForm) (ids schedule : List EventId) : Type 0 where
  pub feasible : IsFeasible window schedule
  pub has : list_all (contains_event schedule) ids ≡ true

-- whether the schedule replays to its end, and has each of these events
abbrev pub ends_at : WindowForm → List EventId → List EventId → Bool
ends_at window ids schedule = is_ok (end_of window schedule) && list_all (contains_event schedule) ids

-- the answer that a kept schedule gives already
abbrev pub given_by : WindowForm → List EventId → Option Schedule → Option (AnswerOf Schedule)
given_by window ids None = None
given_by window ids (Some schedule) = if ends_at window ids schedule.events then Some (Found schedule) else None
