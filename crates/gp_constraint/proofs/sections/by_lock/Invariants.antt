use Rattle.std.proofs.Common.{◌≡◌, ℕ, List, take}
use Rattle.gp_constraint.specs.SectionTables.{sections_on}
use Rattle.gp_constraint.specs.Tables.{entry_at}
use Rattle.gp_constraint.proofs.sections.by_lock.Given as goal

abbrev pub invariant-loop-s : goal.invariant-loop-s
invariant-loop-s l = (lock : List ℕ) → entry_at l.groups lock ≡ sections_on lock (take l.s-index l.sections)
