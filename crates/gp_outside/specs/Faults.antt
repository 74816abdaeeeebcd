use Rattle.std.specs.Prelude.{ℕ, ◌≤◌}
use Rattle.gp_base.specs.Counts.{one_more}

-- the count rose, or stands at its last value
abbrev pub Rose : ℕ → ℕ → Type 0
Rose before now = one_more before ≤ now
