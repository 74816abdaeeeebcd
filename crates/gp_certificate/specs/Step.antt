-- The test of a step: unit clauses carry the negation of its clause to a false clause or to a negative cycle.
use Rattle.std.specs.Prelude.{ℕ, ◌≡◌, ◌⊎◌, List, ◌++◌, Some, length, slice_get, All, Contains}
use Rattle.std.specs.List.{filter_map}
use Rattle.gp_clause.specs.declared.edge.Edge.{Edge}
use Rattle.gp_clause.specs.declared.kind.Kind.{Kind}
use Rattle.gp_clause.specs.declared.lit.Lit.{Lit}
use Rattle.gp_clause.specs.Clause.{NamesBelow}
use Rattle.gp_clause.specs.Closure.{Derived, Conflicts}
use Rattle.gp_clause.specs.Follows.{Follows}
use Rattle.gp_clause.specs.Kind.{bound_of}
use Rattle.gp_clause.specs.Lit.{negations}
use Rattle.gp_clause.specs.Problem.{IsValidKind}
use Rattle.gp_clause.specs.Walk.{HasNegativeCycle}

-- an edge is the bound of a literal that clauses derive from a start
abbrev pub IsDerivedBound : List Kind → List (List Lit) → List Lit → Edge → Type 0
IsDerivedBound kinds clauses start edge = (lit : Lit) × (kind : Kind) × Derived start clauses lit × (slice_get kinds lit.variable ≡ Some kind) × (bound_of kind lit.positive ≡ Some edge)

-- the fixed edges and bounds of derived literals together hold a negative cycle
abbrev pub ClosesCycle : List Edge → List Kind → List (List Lit) → List Lit → Type 0
ClosesCycle edges kinds clauses start = (bounds : List Edge) × All (IsDerivedBound kinds clauses start) bounds × HasNegativeCycle (edges ++ bounds)

-- clauses refute a start where they carry it to a false clause or to a negative cycle
abbrev pub LeadsToConflict : List Edge → List Kind → List (List Lit) → List Lit → Type 0
LeadsToConflict edges kinds clauses start = Conflicts start clauses ⊎ ClosesCycle edges kinds clauses start

-- a clause passes with some clauses where it names variables that there are, and they refute the negation of its literals:
-- this is reverse unit propagation, with difference bounds
pub record Passes (edges : List Edge) (kinds : List Kind) (clauses : List (List Lit)) (clause : List Lit) : Type 0 where
  pub in_range : NamesBelow (length kinds) clause
  pub refuted : LeadsToConflict edges kinds clauses (negations clause)

-- the clauses at some places of a list
abbrev pub named : List (List Lit) → List ℕ → List (List Lit)
named clauses hints = filter_map (λ hint. slice_get clauses hint) hints

-- a clause that passes with some clauses follows from them
abbrev pub PassingFollows : Type 0
PassingFollows = (points : ℕ) (edges : List Edge) (kinds : List Kind) (clauses : List (List Lit)) (clause : List Lit)
    → All (IsValidKind points) kinds → Passes edges kinds clauses clause → Follows points edges kinds clauses clause

-- a clause that passes with some clauses passes with more of them, and so does one that has more literals
abbrev pub MorePasses : Type 0
MorePasses = (edges : List Edge) (kinds : List Kind) (clauses more : List (List Lit)) (clause longer : List Lit)
    → All (Contains more) clauses → All (Contains longer) clause → NamesBelow (length kinds) longer → Passes edges kinds clauses clause → Passes edges kinds more longer
