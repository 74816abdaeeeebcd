-- Clauses in which no symbol has both signs.
use Rattle.std.specs.Prelude.{◌≡◌, List}
use Rattle.std.specs.List.{AllByRecursion}
use Rattle.gp_constraint.specs.declared.symbol.SymbolicLit.{SymbolicLit}
use Rattle.gp_base.specs.ListLaws.{Pairwise}

-- two literals of one symbol have one sign
abbrev pub Agree : SymbolicLit → SymbolicLit → Type 0
Agree l m = l.symbol ≡ m.symbol → l.positive ≡ m.positive

-- in each of the clauses no symbol has both signs
abbrev pub AreSigned : List (List SymbolicLit) → Type 0
AreSigned clauses = AllByRecursion (Pairwise Agree) clauses
