-- A recording of three windows, and what is cut out of it.
use Rattle.std.specs.Prelude.{◌≡◌, ℕ, ℤ, pos, List, [], ◌∷◌, Some, None}
use Rattle.gp_trace.specs.declared.event.Event.{Event}
use Rattle.gp_trace.specs.declared.event.Event.TheVariants.{Read, Write, Acquire, Release, RAcquire, RRelease, Start, Begin, End}
use Rattle.gp_window.specs.ManifestForm.{ManifestForm}
use Rattle.gp_window.specs.RecordingForm.{RecordingForm}
use Rattle.gp_window.specs.WindowForm.{window_of}
use Rattle.gp_window.specs.declared.manifest.StartValue.{StartValue}
use Rattle.gp_cut.specs.Cut.{cut_of}

-- variables
abbrev x : List ℕ
x = 120 ∷ []

abbrev y : List ℕ
y = 121 ∷ []

abbrev z : List ℕ
z = 122 ∷ []

-- locks
abbrev l : List ℕ
l = 108 ∷ []

abbrev m : List ℕ
m = 109 ∷ []

-- regions
abbrev f : List ℕ
f = 102 ∷ []

abbrev g : List ℕ
g = 103 ∷ []

abbrev given : ℕ → List ℕ → ℤ → StartValue
given window variable value = record { window = window; variable = variable; value = value }

-- the manifest of two threads, in a format with shared locks
abbrev manifest_of : ℕ → List ℕ → List StartValue → ManifestForm
manifest_of epochs roots values = record { format = 2; threads = 2; epochs = epochs; roots = roots; values = values }

-- what each thread does in each window
abbrev first_begins : List Event
first_begins = Start 2 ∷ Acquire m ∷ Begin f ∷ Begin g ∷ []

abbrev first_works : List Event
first_works = Write x (pos 8) ∷ End g ∷ []

abbrev first_ends : List Event
first_ends = End f ∷ Release m ∷ []

abbrev second_begins : List Event
second_begins = RAcquire l ∷ []

abbrev second_works : List Event
second_works = Read x (pos 7) ∷ RRelease l ∷ []

-- thread 1 starts thread 2, and holds a lock and is in a region over both marks; thread 2 reads a lock over the first mark, and ends
-- in the second window; x and y begin that window with other values than the first, and z is given for the last
abbrev pub recording : RecordingForm
recording = record {
  manifest = manifest_of 3 (1 ∷ []) (given 1 x (pos 5) ∷ given 1 y (pos 1) ∷ given 2 x (pos 7) ∷ given 2 y (pos 0) ∷ given 3 z (pos 9) ∷ []);
  traces = record { thread = 1; segments = first_begins ∷ first_works ∷ first_ends ∷ []; exit_in = None }
      ∷ record { thread = 2; segments = second_begins ∷ second_works ∷ [] ∷ []; exit_in = Some 2 } ∷ [];
}

pub record ExamplesHold : Type 0 where
  -- the second window: its stage takes both locks, each in its way, and begins both regions; both threads are roots
  pub second : cut_of 1 1 recording ≡ record {
    manifest = manifest_of 2 (1 ∷ 2 ∷ []) (given 2 x (pos 7) ∷ given 2 y (pos 0) ∷ []);
    traces = record { thread = 1; segments = (Acquire m ∷ Begin f ∷ Begin g ∷ []) ∷ first_works ∷ []; exit_in = None }
        ∷ record { thread = 2; segments = (RAcquire l ∷ []) ∷ second_works ∷ []; exit_in = Some 2 } ∷ [];
  }
  -- and the window behind that stage
  pub window : window_of (cut_of 1 1 recording) 2 ≡ record {
    number = 2;
    segments = first_works ∷ second_works ∷ [];
    start_values = (x, pos 7) ∷ [];
    holders = (m, 1) ∷ [];
    readers = (l, 2) ∷ [];
    started = 1 ∷ 2 ∷ [];
    exited = 2 ∷ [];
  }
  -- the last window: thread 2 has ended, and holds nothing
  pub last : cut_of 2 1 recording ≡ record {
    manifest = manifest_of 2 (1 ∷ 2 ∷ []) (given 2 x (pos 7) ∷ given 2 y (pos 0) ∷ given 2 z (pos 9) ∷ []);
    traces = record { thread = 1; segments = (Acquire m ∷ Begin f ∷ []) ∷ first_ends ∷ []; exit_in = None }
        ∷ record { thread = 2; segments = [] ∷ [] ∷ []; exit_in = Some 1 } ∷ [];
  }
  -- the first two windows: the stage is empty, and thread 2 is started behind it
  pub first_two : cut_of 0 2 recording ≡ record {
    manifest = manifest_of 3 (1 ∷ []) (given 2 x (pos 5) ∷ given 2 y (pos 1) ∷ given 3 x (pos 7) ∷ given 3 y (pos 0) ∷ []);
    traces = record { thread = 1; segments = [] ∷ first_begins ∷ first_works ∷ []; exit_in = None }
        ∷ record { thread = 2; segments = [] ∷ second_begins ∷ second_works ∷ []; exit_in = Some 3 } ∷ [];
  }
  -- no window but the stage: thread 2 has not ended by then
  pub stage_alone : cut_of 1 0 recording ≡ record {
    manifest = manifest_of 1 (1 ∷ 2 ∷ []) [];
    traces = record { thread = 1; segments = (Acquire m ∷ Begin f ∷ Begin g ∷ []) ∷ []; exit_in = None }
        ∷ record { thread = 2; segments = (RAcquire l ∷ []) ∷ []; exit_in = None } ∷ [];
  }
