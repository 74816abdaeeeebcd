-- Which windows of a recording are which part, where it is parted by events.
use Rattle.std.specs.Prelude.{ℕ, ◌+◌, ◌-◌, ◌*◌, ◌<◌, ◌≤◌, ◌≡◌, List, [], ◌∷◌, ◌++◌, if◌then◌else◌, length, map, nat_lt, sum, sum_by}
use Rattle.std.specs.List.{range_with_len}
use Rattle.gp_window.specs.Holders.{segment_after}
use Rattle.gp_window.specs.RecordingForm.{RecordingForm}
use Rattle.gp_cut.specs.declared.parting.Part.{Part}

-- what the window weighs that has so many before it: one more than it has events, so that each weighs something
abbrev pub weight_of : RecordingForm → ℕ → ℕ
weight_of r before = sum_by (λ trace. length (segment_after before trace)) r.traces + 1

-- what the windows weigh, in order
abbrev pub weights_of : RecordingForm → List ℕ
weights_of r = map (weight_of r) (range_with_len 0 r.manifest.epochs)

-- how many of these windows have their middle before the end of this part of so many, where all of the recording weighs `whole` and so
-- much of it is before them
abbrev pub middles_before : ℕ → ℕ → ℕ → ℕ → List ℕ → ℕ
middles_before part parts whole before [] = 0
middles_before part parts whole before (weight ∷ weights) =
    (if nat_lt ((before + before + weight) * parts) (2 * part * whole) then 1 else 0) + middles_before part parts whole (before + weight) weights

-- how many windows this part and those before it have together
abbrev pub windows_to : ℕ → ℕ → List ℕ → ℕ
windows_to part parts weights = middles_before part parts (sum weights) 0 weights

-- the part of this number of so many, from 1
abbrev pub part_of : ℕ → ℕ → List ℕ → Part
part_of part parts weights = record {
  before = windows_to (part - 1) parts weights;
  count = windows_to part parts weights - windows_to (part - 1) parts weights;
}

-- the window that has so many before it is in a part
pub record IsIn (window : ℕ) (part : Part) : Type 0 where
  pub first : part.before ≤ window
  pub last : window < part.before + part.count

-- each window of a recording that is parted is in exactly one part, and the parts follow one another from the first window to the last
pub record PartsAreWhole : Type 0 where
  pub begins : (parts : ℕ) (weights : List ℕ) → windows_to 0 parts weights ≡ 0
  pub ends : (parts : ℕ) (r : RecordingForm) → 1 ≤ parts → windows_to parts parts (weights_of r) ≡ r.manifest.epochs
  pub rises : (part parts : ℕ) (weights : List ℕ) → windows_to part parts weights ≤ windows_to (part + 1) parts weights
  pub some : (parts window : ℕ) (r : RecordingForm) → 1 ≤ parts → window < r.manifest.epochs
      → (part : ℕ) × (1 ≤ part) × (part ≤ parts) × IsIn window (part_of part parts (weights_of r))
  pub one : (one other parts window : ℕ) (weights : List ℕ) → 1 ≤ one → 1 ≤ other
      → IsIn window (part_of one parts weights) → IsIn window (part_of other parts weights) → one ≡ other

-- no boundary between two windows is nearer than the end of a part to where that would be by weight alone: what stands before it is less
-- than that and half of the window before it, and no less than that without half of the window behind it
pub record PartsAreEven : Type 0 where
  pub before : (part parts weight : ℕ) (front back : List ℕ) → windows_to part parts (front ++ weight ∷ back) ≡ length front + 1
      → (sum front + sum front + weight) * parts < 2 * part * sum (front ++ weight ∷ back)
  pub behind : (part parts weight : ℕ) (front back : List ℕ) → windows_to part parts (front ++ weight ∷ back) ≡ length front
      → 2 * part * sum (front ++ weight ∷ back) ≤ (sum front + sum front + weight) * parts
