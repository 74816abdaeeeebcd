-- A recording: what its manifest says, and the trace of each of its threads.
use Rattle.std.specs.Prelude.{ℕ, ◌≡◌, ◌+◌, true, List, [], ◌∷◌, length, is_ok, Ok, All}
use Rattle.gp_trace.specs.Trace.{LocalTraceForm, IsLocalTrace}
use Rattle.gp_window.specs.ManifestForm.{ManifestForm, IsManifest}
use Rattle.gp_window.specs.Starts.{after_traces}
use Rattle.gp_window.specs.Marks.{after_marks}

-- a manifest and the traces of its threads, in order
pub record RecordingForm : Type 0 where
  pub manifest : ManifestForm
  pub traces : List LocalTraceForm

-- the traces are those of the threads from this number on, each of so many segments
abbrev pub AreNumbered : ℕ → ℕ → List LocalTraceForm → Type 0
AreNumbered epochs thread [] = Unit {0}
AreNumbered epochs thread (trace ∷ traces) =
    (trace.thread ≡ thread) × (length trace.segments ≡ epochs) × AreNumbered epochs (thread + 1) traces

-- the rules of a recording
pub record IsRecording (r : RecordingForm) : Type 0 where
  -- the manifest keeps its rules
  pub manifest : IsManifest r.manifest
  -- one trace for each thread
  pub count : length r.traces ≡ r.manifest.threads
  -- the traces stand in the order of the threads, and have a segment for each epoch
  pub numbered : AreNumbered r.manifest.epochs 1 r.traces
  -- each trace keeps its rules
  pub traces : All IsLocalTrace r.traces
  -- no start or join names a thread that is not there, a root is not started, and no thread twice
  pub starts : is_ok (after_traces r.manifest.threads r.manifest.roots [] r.traces) ≡ true
  -- no two threads hold a lock over one mark
  pub holders : after_marks r.manifest.epochs r.traces ≡ Ok tt
