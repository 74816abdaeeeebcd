-- What is known of a bench at each of its levels.
use Rattle.std.specs.Prelude.{ℕ, ◌≡◌, ◌⊎◌, ◌≤◌, Bool, false, List, [], ◌∷◌, ◌++◌, length, All, Any, Contains, MatchBool}
use Rattle.gp_clause.specs.declared.edge.Edge.{Edge}
use Rattle.gp_clause.specs.declared.kind.Kind.{Kind}
use Rattle.gp_clause.specs.declared.lit.Lit.{Lit}
use Rattle.gp_clause.specs.Closure.{Derived}
use Rattle.gp_clause.specs.Lit.{negations}
use Rattle.gp_clause.specs.Walk.{HasNegativeCycle}
use Rattle.gp_difference.specs.declared.bound.Bound.{Bound}
use Rattle.gp_difference.specs.Bounds.{edges_of}
use Rattle.gp_difference.specs.Graph.{GraphForm}
use Rattle.gp_certificate.specs.declared.assignment.Assignment.{Assignment}
use Rattle.gp_certificate.specs.declared.level.Level.{Level}
use Rattle.gp_certificate.specs.Assignment.{IsClosing}
use Rattle.gp_certificate.specs.ClauseList.{joined}
use Rattle.gp_certificate.specs.Counting.{standing, HasBegun, IsThrough}
use Rattle.gp_certificate.specs.Places.{bounds_at}
use Rattle.gp_certificate.specs.Step.{LeadsToConflict}

-- what a bench has at a level: the clauses that were assumed, level by level, the levels, the literals that are true, the
-- bounds that are kept, and through how many literals it went
pub record Stack : Type 0 where
  pub assumed : List (List Lit)
  pub levels : List Level
  pub trail : List Lit
  pub kept : List Bound
  pub cursor : ℕ

-- all that is made true at a level and below it
abbrev pub start_of : Stack → List Lit
start_of stack = negations (joined stack.assumed)

-- nothing refutes what was assumed: all that it derives is true, no clause is false or unit, and no negative cycle is closed
pub record IsClosed (edges : List Edge) (kinds : List Kind) (clauses : List (List Lit)) (stack : Stack) : Type 0 where
  pub derived : All (Derived (start_of stack) clauses) stack.trail
  pub starts : All (Contains stack.trail) (start_of stack)
  pub done : All (λ clause. Any (Contains stack.trail) clause ⊎ (2 ≤ standing stack.trail clause)) clauses
  pub bounds : edges_of stack.kept ≡ bounds_at kinds stack.trail
  pub acyclic : HasNegativeCycle (edges ++ edges_of stack.kept) → ⊥
  pub all : stack.cursor ≡ length stack.trail

-- nothing was assumed
pub record IsBase (stack : Stack) : Type 0 where
  pub assumed : stack.assumed ≡ []
  pub levels : stack.levels ≡ []
  pub trail : stack.trail ≡ []
  pub kept : stack.kept ≡ []
  pub cursor : stack.cursor ≡ 0

-- one more level: what was true and kept before stands below it, it tells how much that was, and it tells whether all that
-- was assumed is refuted
pub record IsNext (edges : List Edge) (kinds : List Kind) (clauses : List (List Lit)) (outer : Stack) (lits : List Lit) (level : Level) (stack : Stack) : Type 0 where
  pub assumed : stack.assumed ≡ outer.assumed ++ lits ∷ []
  pub levels : stack.levels ≡ outer.levels ++ level ∷ []
  pub trail : (more : List Lit) × (stack.trail ≡ outer.trail ++ more)
  pub kept : (more : List Bound) × (stack.kept ≡ outer.kept ++ more)
  pub onward : outer.cursor ≤ stack.cursor
  pub within : outer.cursor ≤ length outer.trail
  pub trail_mark : level.trail ≡ length outer.trail
  pub bound_mark : level.bounds ≡ length outer.kept
  pub cursor_mark : level.cursor ≡ outer.cursor
  pub tells : MatchBool level.refutes (LeadsToConflict edges kinds clauses (start_of stack)) (IsClosed edges kinds clauses stack)

-- a bench after levels that were made one after another
pub data IsStack (edges : List Edge) (kinds : List Kind) (clauses : List (List Lit)) : Stack → Type 0 where
  base : (stack : Stack) → IsBase stack → IsStack edges kinds clauses stack
  next : (outer stack : Stack) (lits : List Lit) (level : Level) → IsStack edges kinds clauses outer → IsNext edges kinds clauses outer lits level stack → IsStack edges kinds clauses stack

-- where what was assumed before is not refuted, propagation may go on
pub record MayGoOn (edges : List Edge) (cyclic : Bool) (assignment : Assignment) (graph : GraphForm) (clauses : List (List Lit)) : Type 0 where
  pub begun : HasBegun assignment clauses
  pub few : length graph.kept ≤ length assignment.trail.items
  pub acyclic : cyclic ≡ false → HasNegativeCycle (edges ++ edges_of graph.kept) → ⊥

-- a start was carried on to this assignment, whose bounds the graph keeps
pub record IsCarried (kinds : List Kind) (clauses : List (List Lit)) (start : List Lit) (assignment : Assignment) (graph : GraphForm) : Type 0 where
  pub closing : IsClosing start clauses assignment
  pub bounds : edges_of graph.kept ≡ bounds_at kinds assignment.trail.items

-- and no clause needs a look, and no negative cycle is closed
pub record IsSettled (edges : List Edge) (kinds : List Kind) (clauses : List (List Lit)) (start : List Lit) (assignment : Assignment) (graph : GraphForm) : Type 0 where
  pub carried : IsCarried kinds clauses start assignment graph
  pub through : IsThrough assignment clauses
  pub acyclic : HasNegativeCycle (edges ++ edges_of graph.kept) → ⊥
