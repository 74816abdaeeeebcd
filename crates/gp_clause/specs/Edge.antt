use Rattle.std.specs.Prelude.{ℕ, ℤ, ◌-ℤ◌, ◌≤ℤ◌, List, All}
use Rattle.gp_clause.specs.declared.edge.Edge.{Edge}

-- the places keep an edge where place a minus place b is at most c
abbrev pub Keeps : (ℕ → ℤ) → Edge → Type 0
Keeps place edge = (place edge.a -ℤ place edge.b) ≤ℤ edge.c

-- some places keep all of the edges
abbrev pub IsSolvable : List Edge → Type 0
IsSolvable edges = (place : ℕ → ℤ) × All (Keeps place) edges
