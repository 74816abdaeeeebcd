-- Neighbouring windows of a recording as a recording of their own, behind one window that only sets the stage: each thread takes
-- the locks that it holds by then and begins the regions that it is in, and the values with which the first of them begins are given.
use Rattle.std.specs.Prelude.{ℕ, ℤ, zero, suc, ◌+◌, ◌-◌, Bool, ◌&&◌, List, [], ◌∷◌, ◌++◌, Option, Some, None, drop, filter, if◌then◌else◌, map, nat_le, nat_lt, take}
use Rattle.gp_trace.specs.Rules.{after_all, at_first}
use Rattle.gp_trace.specs.Trace.{in_order, LocalTraceForm}
use Rattle.gp_trace.specs.declared.event.Event.{Event}
use Rattle.gp_trace.specs.declared.event.Event.TheVariants.{Acquire, RAcquire, Begin}
use Rattle.gp_trace.specs.declared.lock_use.LockMode.{LockMode}
use Rattle.gp_trace.specs.declared.lock_use.LockMode.TheVariants.{Exclusive, Shared}
use Rattle.gp_trace.specs.declared.rules.Standing.{Standing}
use Rattle.gp_window.specs.ManifestForm.{ManifestForm}
use Rattle.gp_window.specs.RecordingForm.{RecordingForm}
use Rattle.gp_window.specs.WindowForm.{started_of, values_at}
use Rattle.gp_window.specs.declared.manifest.StartValue.{StartValue}

-- where a thread stands behind so many segments
abbrev pub standing_behind : ℕ → LocalTraceForm → Standing
standing_behind before trace = after_all at_first (in_order (take before trace.segments))

-- the event by which a lock is taken so
abbrev pub taking : List ℕ × LockMode → Event
taking (lock, Exclusive) = Acquire lock
taking (lock, Shared) = RAcquire lock

-- the events that bring a thread where it stands: it takes its locks, in the order of their names, and begins its regions, the
-- outermost first
abbrev pub staged : Standing → List Event
staged standing = map taking standing.held ++ map Begin standing.begun

-- the segments of a trace behind so many, as many as are asked for, and before them the one that sets the stage
abbrev pub cut_segments : ℕ → ℕ → LocalTraceForm → List (List Event)
cut_segments before count trace = staged (standing_behind before trace) ∷ take count (drop before trace.segments)

-- a thread that has ended before ends in the stage; one that ends later than that has not ended
abbrev pub cut_exit : ℕ → ℕ → Option ℕ → Option ℕ
cut_exit before count None = None
cut_exit before count (Some segment) =
    if nat_le segment before then Some 1
    else (if nat_le segment (before + count) then Some (segment - before + 1) else None)

-- the trace of a thread
abbrev pub cut_trace : ℕ → ℕ → LocalTraceForm → LocalTraceForm
cut_trace before count trace =
    record { thread = trace.thread; segments = cut_segments before count trace; exit_in = cut_exit before count trace.exit_in }

-- the value of a variable when the first window behind the stage begins
abbrev pub first_value : List ℕ × ℤ → StartValue
first_value value = record { window = 2; variable = value.0; value = value.1 }

-- a value that is given for a window behind so many, for the same window behind the stage
abbrev pub moved : ℕ → StartValue → StartValue
moved before value = record value { window = value.window - before + 1 }

-- whether a value is given for one of the windows behind the first
abbrev pub is_later : ℕ → ℕ → StartValue → Bool
is_later before count value = nat_lt (before + 1) value.window && nat_le value.window (before + count)

-- the start values: those of the first window, the zeros too, and what is given for each later one
abbrev pub cut_values : ℕ → ℕ → List StartValue → List StartValue
cut_values before zero given = []
cut_values before (suc more) given =
    map first_value (values_at given (before + 1)) ++ map (moved before) (filter (is_later before (suc more)) given)

-- the manifest: the threads that run by then are roots
abbrev pub cut_manifest : ℕ → ℕ → RecordingForm → ManifestForm
cut_manifest before count r = record {
  format = r.manifest.format;
  threads = r.manifest.threads;
  epochs = count + 1;
  roots = started_of r before;
  values = cut_values before count r.manifest.values;
}

-- so many windows of a recording behind so many, with their stage
abbrev pub cut_of : ℕ → ℕ → RecordingForm → RecordingForm
cut_of before count r = record { manifest = cut_manifest before count r; traces = map (cut_trace before count) r.traces }
