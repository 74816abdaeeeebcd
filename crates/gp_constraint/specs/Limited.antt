-- Clauses that are put behind others, or behind none, up to the limit of both together.
use Rattle.std.specs.Prelude.{ℕ, ◌≡◌, ◌+◌, ◌<◌, ◌++◌, List, Result, Ok, Err, if◌then◌else◌, length, nat_lt}
use Rattle.gp_constraint.specs.declared.fault.Full.{Full}
use Rattle.gp_constraint.specs.declared.fault.Full.TheVariants.{Memory, TooMany}
use Rattle.gp_constraint.specs.declared.symbol.SymbolicLit.{SymbolicLit}

-- clauses over symbols, and how many stand before them
pub record LimitedForm : Type 0 where
  pub before : ℕ
  pub clauses : List (List SymbolicLit)

-- with more clauses
abbrev pub with_clauses : LimitedForm → List (List SymbolicLit) → LimitedForm
with_clauses limited more = record { before = limited.before; clauses = limited.clauses ++ more }

-- these clauses are added; or with them there would be too many; of want of memory nothing is said
abbrev pub IsAdded : Result (Unit {0}) Full → LimitedForm → LimitedForm → List (List SymbolicLit) → Type 0
IsAdded (Ok done) old new due = new ≡ with_clauses old due
IsAdded (Err TooMany) old new due = 500000 < old.before + length old.clauses + length due
IsAdded (Err Memory) old new due = Unit {0}

-- the clauses, where they are not too many
abbrev pub limited : List (List SymbolicLit) → Result (List (List SymbolicLit)) Full
limited clauses = if nat_lt 500000 (length clauses) then Err TooMany else Ok clauses
