-- A window of a recording, read off the recording.
use Rattle.std.specs.Prelude.{ℕ, ℤ, pos, zero, suc, ◌≡◌, ◌≤◌, ◌+◌, ◌-◌, ◌++◌, Bool, false, not, ◌==◌, ◌||◌, List, [], ◌∷◌, Option, Some, None, filter, flat_map, map, nat_le, unwrap_or}
use Rattle.std.specs.Cmp.Lexicographic.{slice_cmp}
use Rattle.std.specs.Ordering.{int_eq, nat_cmp}
use Rattle.gp_trace.specs.declared.event.Event.{Event}
use Rattle.gp_trace.specs.declared.event.Event.TheVariants.{Start}
use Rattle.gp_trace.specs.Trace.{LocalTraceForm}
use Rattle.gp_window.specs.declared.manifest.StartValue.{StartValue}
use Rattle.gp_trace.specs.declared.lock_use.LockMode.TheVariants.{Exclusive, Shared}
use Rattle.gp_window.specs.Holders.{Holdings, held_as, held_over, holder_cmp, holders_among, readers_among, segment_after}
use Rattle.gp_window.specs.RecordingForm.{RecordingForm, IsRecording}
use Rattle.gp_window.specs.Starts.{is_among}
use Rattle.gp_base.specs.Table.{value_at, with_entries, with_entry}

-- a window: its number, the events of each thread in it, and what holds when it begins
pub record WindowForm : Type 0 where
  pub number : ℕ
  pub segments : List (List Event)
  pub start_values : List (List ℕ × ℤ)
  pub holders : List (List ℕ × ℕ)
  pub readers : List (List ℕ × ℕ)
  pub started : List ℕ
  pub exited : List ℕ

-- the values of variables, in the order of their names, after these were given
abbrev pub given_all : List (List ℕ × ℤ) → List StartValue → List (List ℕ × ℤ)
given_all values [] = values
given_all values (given ∷ more) = given_all (with_entry (slice_cmp nat_cmp) values given.variable given.value) more

-- the values at the beginning of a window: those of the window before, but where the manifest gives others
abbrev pub values_at : List StartValue → ℕ → List (List ℕ × ℤ)
values_at given zero = []
values_at given (suc k) = given_all (values_at given k) (filter (λ value. value.window == suc k) given)

-- a value other than 0
abbrev pub is_kept : List ℕ × ℤ → Bool
is_kept value = not (int_eq value.1 (pos 0))

-- the start values of a window, without those that are 0
abbrev pub start_values_of : List StartValue → ℕ → List (List ℕ × ℤ)
start_values_of given k = filter is_kept (values_at given k)

-- the value of a variable among these; one that is not there is 0
abbrev pub value_in : List (List ℕ × ℤ) → List ℕ → ℤ
value_in values variable = unwrap_or (value_at (slice_cmp nat_cmp) values variable) (pos 0)

-- the thread that an event starts
abbrev pub started_by : Event → List ℕ
started_by (Start thread) = thread ∷ []
started_by _ = []

-- the threads that are started in the segment of each trace that has so many before it
abbrev pub started_in : ℕ → List LocalTraceForm → List ℕ
started_in before traces = flat_map (λ trace. flat_map started_by (segment_after before trace)) traces

-- the threads that are started in so many first segments, segment after segment
abbrev pub started_before : ℕ → List LocalTraceForm → List ℕ
started_before zero traces = []
started_before (suc before) traces = started_before before traces ++ started_in before traces

-- so many numbers, from this one on
abbrev pub numbers_from : ℕ → ℕ → List ℕ
numbers_from n zero = []
numbers_from n (suc more) = n ∷ numbers_from (n + 1) more

-- those of the threads that are roots or were started
abbrev pub chosen : List ℕ → List ℕ → List ℕ → List ℕ
chosen roots started threads = filter (λ thread. is_among roots thread || is_among started thread) threads

-- the roots and the threads that were started before, rising
abbrev pub started_of : RecordingForm → ℕ → List ℕ
started_of r before =
    chosen r.manifest.roots (started_before before r.traces) (numbers_from 1 r.manifest.threads)

-- whether a thread that ends in this segment, if in any, has ended by the end of window k
abbrev pub has_exited : ℕ → Option ℕ → Bool
has_exited k None = false
has_exited k (Some segment) = nat_le segment k

-- the threads that end in window k or in an earlier one, in order
abbrev pub exited_of : ℕ → List LocalTraceForm → List ℕ
exited_of k traces = map (λ trace. trace.thread) (filter (λ trace. has_exited k trace.exit_in) traces)

-- window k of a recording: the segments of that number, and what holds after all earlier ones
abbrev pub window_of : RecordingForm → ℕ → WindowForm
window_of r k = record {
  number = k;
  segments = map (segment_after (k - 1)) r.traces;
  start_values = start_values_of r.manifest.values k;
  holders = holders_among (held_over r.traces (k - 1));
  readers = readers_among (held_over r.traces (k - 1));
  started = started_of r (k - 1);
  exited = exited_of k r.traces;
}

-- the value of a variable when a window begins
abbrev pub start_value : WindowForm → List ℕ → ℤ
start_value window variable = value_in window.start_values variable

-- who holds which lock when a window begins, in the order of the locks' names and then of the threads
abbrev pub held_at_start : WindowForm → Holdings
held_at_start window = with_entries holder_cmp [] (held_as Exclusive window.holders ++ held_as Shared window.readers)

-- a window is one of the windows of some recording
pub record IsWindow (w : WindowForm) : Type 0 where
  pub recording : RecordingForm
  pub rules : IsRecording recording
  pub first : 1 ≤ w.number
  pub last : w.number ≤ recording.manifest.epochs
  pub is : w ≡ window_of recording w.number
