-- What a schedule says of the events of its window: which are executed, at which places, and what each read sees.
use Rattle.std.specs.Prelude.{ℕ, pos, ◌+◌, Bool, true, false, not, ◌&&◌, List, [], ◌∷◌, Option, Some, None, is_some, length, nat_lt}
use Rattle.std.specs.Str.{bytes_eq}
use Rattle.gp_trace.specs.declared.event.Event.{Event}
use Rattle.gp_trace.specs.declared.event.Event.TheVariants.{Read, Write}
use Rattle.gp_window.specs.declared.schedule.EventId.{EventId}
use Rattle.gp_window.specs.Events.{event_at}
use Rattle.gp_window.specs.WindowForm.{WindowForm}
use Rattle.gp_window.specs.Ids.{contains_event, is_same}
use Rattle.gp_constraint.specs.Points.{number_in}
use Rattle.gp_witness.specs.Meaning.{Truth}
pub use Rattle.gp_constraint.specs.StandingLaws.{before_of}

-- what is added to the place of an event that is not executed
abbrev pub late : WindowForm → Bool → EventId → ℕ
late window true e = 0
late window false e = number_in window e

-- an event of the schedule has its place in it; all others come after these, by thread and index
abbrev pub schedule_place : WindowForm → List EventId → EventId → ℕ
schedule_place window ids e = length (before_of ids e) + late window (contains_event ids e) e

-- whether it is a write to the variable
abbrev pub writes_to : List ℕ → Option Event → Bool
writes_to variable (Some (Write name value)) = bytes_eq name variable
writes_to variable _ = false

-- the later of two, where there is one
abbrev pub later_of : Bool → EventId → Option EventId → Option EventId
later_of writes id (Some last) = Some last
later_of true id None = Some id
later_of false id None = None

-- the last write to the variable
abbrev pub last_write : WindowForm → List ℕ → List EventId → Option EventId
last_write window variable [] = None
last_write window variable (id ∷ ids) = later_of (writes_to variable (event_at window id)) id (last_write window variable ids)

-- whether the last write is that one
abbrev pub is_that : EventId → Option EventId → Bool
is_that w (Some last) = is_same last w
is_that w None = false

-- whether a read after these events sees the write
abbrev pub sees_write : WindowForm → List EventId → Option Event → EventId → Bool
sees_write window front (Some (Read variable value)) w = is_that w (last_write window variable front)
sees_write window front _ w = false

-- whether a read after these events sees the start value
abbrev pub sees_start : WindowForm → List EventId → Option Event → Bool
sees_start window front (Some (Read variable value)) = not (is_some (last_write window variable front))
sees_start window front _ = false

-- what the schedule says
abbrev pub schedule_truth : WindowForm → List EventId → Truth
schedule_truth window ids = record {
  executed = λ e. contains_event ids e;
  place = λ e. pos (schedule_place window ids e);
  reads = λ r w. contains_event ids r && sees_write window (before_of ids r) (event_at window r) w;
  reads_start = λ r. contains_event ids r && sees_start window (before_of ids r) (event_at window r);
  first = λ a c. nat_lt (schedule_place window ids a) (schedule_place window ids c);
  last = λ w. false;
  signals = λ w g. false;
}
