-- Small recordings, and how they are parted.
use Rattle.std.specs.Prelude.{◌≡◌, ℕ, List, [], ◌∷◌, None, length, map, replicate}
use Rattle.std.specs.List.{range_with_len}
use Rattle.gp_trace.specs.declared.event.Event.{Event}
use Rattle.gp_trace.specs.declared.event.Event.TheVariants.{Start}
use Rattle.gp_window.specs.RecordingForm.{RecordingForm}
use Rattle.gp_cut.specs.declared.parting.Part.{Part}
use Rattle.gp_cut.specs.Examples.{recording}
use Rattle.gp_cut.specs.Parts.{part_of, weights_of}

-- so many events
abbrev events : ℕ → List Event
events count = replicate count (Start 2)

-- one thread whose windows have so many events
abbrev pub windows_of : List ℕ → RecordingForm
windows_of counts = record {
  manifest = record { format = 1; threads = 1; epochs = length counts; roots = 1 ∷ []; values = [] };
  traces = record { thread = 1; segments = map events counts; exit_in = None } ∷ [];
}

-- these windows in so many parts
abbrev pub parted : ℕ → List ℕ → List Part
parted parts counts = map (λ part. part_of part parts (weights_of (windows_of counts))) (range_with_len 1 parts)

abbrev pub a_part : ℕ → ℕ → Part
a_part before count = record { before = before; count = count }

pub record PartsExamplesHold : Type 0 where
  -- the events of both threads count, and one for the window
  pub weights : weights_of recording ≡ 6 ∷ 5 ∷ 3 ∷ []
  -- one window in four parts is in the third: its middle is where the third begins
  pub single : parted 4 (9 ∷ []) ≡ a_part 0 0 ∷ a_part 0 0 ∷ a_part 0 1 ∷ a_part 1 0 ∷ []
  -- windows of 3, 1, 4, 1 and 5 events in two parts, of 8 events and of 6
  pub halves : parted 2 (3 ∷ 1 ∷ 4 ∷ 1 ∷ 5 ∷ []) ≡ a_part 0 3 ∷ a_part 3 2 ∷ []
  -- and in three parts, of 4, of 5 and of 5 events
  pub thirds : parted 3 (3 ∷ 1 ∷ 4 ∷ 1 ∷ 5 ∷ []) ≡ a_part 0 2 ∷ a_part 2 2 ∷ a_part 4 1 ∷ []
  -- windows without events are parted by their number
  pub empty : parted 2 (0 ∷ 0 ∷ 0 ∷ 0 ∷ []) ≡ a_part 0 2 ∷ a_part 2 2 ∷ []
  -- two windows in three parts: the second part has none
  pub few : parted 3 (1 ∷ 1 ∷ []) ≡ a_part 0 1 ∷ a_part 1 0 ∷ a_part 1 1 ∷ []
  -- one part has all windows
  pub whole : parted 1 (3 ∷ 1 ∷ 4 ∷ []) ≡ a_part 0 3 ∷ []
