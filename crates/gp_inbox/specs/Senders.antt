-- The numbers of senders.
use Rattle.std.specs.Prelude.{ℕ, ◌≤◌, ◌==◌, List, count_by}

-- the numbers are all different
abbrev pub AllDifferent : List ℕ → Type 0
AllDifferent numbers = (number : ℕ) → count_by (◌==◌ number) numbers ≤ 1
