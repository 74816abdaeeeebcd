-- What a manifest says, and the rules that it keeps.
use Rattle.std.specs.Prelude.{ℕ, ◌≡◌, ◌<◌, ◌≤◌, true, List, length, map, All}
use Rattle.std.specs.Cmp.Lexicographic.{slice_cmp}
use Rattle.std.specs.List.Sorted.{IsStrictlySortedBy}
use Rattle.std.specs.Ordering.{nat_cmp, ordering_then}
use Rattle.std.specs.declared.cmp.Ordering.{Ordering}
use Rattle.gp_window.specs.declared.manifest.StartValue.{StartValue}
use Rattle.gp_window.specs.Number.{is_rising}

-- what a manifest says: the format of the traces, how many threads and epochs, which threads nobody has to start, and the
-- values of variables at the beginning of windows
pub record ManifestForm : Type 0 where
  pub format : ℕ
  pub threads : ℕ
  pub epochs : ℕ
  pub roots : List ℕ
  pub values : List StartValue

-- the window and the variable of a value
abbrev pub place_of : StartValue → ℕ × List ℕ
place_of value = (value.window, value.variable)

-- places in the order of their windows, and in one window by the names of the variables
abbrev pub place_cmp : ℕ × List ℕ → ℕ × List ℕ → Ordering
place_cmp one other = ordering_then (nat_cmp one.0 other.0) (slice_cmp nat_cmp one.1 other.1)

-- a place lies in one of so many windows
abbrev pub IsInside : ℕ → ℕ × List ℕ → Type 0
IsInside epochs place = (1 ≤ place.0) × (place.0 ≤ epochs)

-- the rules of a manifest
pub record IsManifest (m : ManifestForm) : Type 0 where
  -- format 1 or 2
  pub format : (1 ≤ m.format) × (m.format ≤ 2)
  -- 1 to 64 threads
  pub threads : (1 ≤ m.threads) × (m.threads ≤ 64)
  -- 1 to 4,096 epochs
  pub epochs : (1 ≤ m.epochs) × (m.epochs ≤ 4096)
  -- some thread is a root
  pub rooted : 0 < length m.roots
  -- the roots rise, and are threads
  pub roots : is_rising 1 m.threads m.roots ≡ true
  -- each value is given for one of the windows
  pub inside : All (IsInside m.epochs) (map place_of m.values)
  -- the values stand in the order of their places, none of which comes twice
  pub ordered : IsStrictlySortedBy place_cmp (map place_of m.values)
