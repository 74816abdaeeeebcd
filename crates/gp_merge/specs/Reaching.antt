-- Where a window is one of those that parts have.
use Rattle.std.specs.Prelude.{ℕ, ◌<◌, ◌≤◌, List}
use Rattle.gp_cut.specs.declared.parting.Part.{Part}
use Rattle.gp_merge.specs.Checking.{AreNeighbours}

-- parts follow one another from before a window up to it at least, and up to no more windows than a recording has
pub record Reach (parts : List Part) (window : ℕ) : Type 0 where
  pub before : ℕ
  pub last : ℕ
  pub row : AreNeighbours before parts last
  pub behind : before < window
  pub within : window ≤ last
  pub few : last ≤ 4096
