-- How the workers of windows work.
use Rattle.std.specs.Prelude.{ℕ}
use Rattle.gp_analysis.specs.declared.task.Order.{Order}
use Rattle.gp_analysis.specs.declared.task.Order.TheVariants.{SideBySide, InTurn}
use Rattle.gp_workers.specs.Post.{IsPost}

-- so many workers can work in an order: where they work in turn, the post is theirs
abbrev pub IsOrder : ℕ → Order → Type 0
IsOrder count SideBySide = Unit {0}
IsOrder count (InTurn post) = IsPost count post
