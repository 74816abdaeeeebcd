-- What a bench keeps, and what callers see of it.
use Rattle.std.specs.Prelude.{ℕ, ◌≡◌, ◌+◌, ◌*◌, ◌<◌, ◌≤◌, ◌^◌, List, ◌++◌, length, vec_capacity, All}
use Rattle.gp_clause.specs.declared.edge.Edge.{Edge}
use Rattle.gp_clause.specs.declared.kind.Kind.{Kind}
use Rattle.gp_clause.specs.declared.lit.Lit.{Lit}
use Rattle.gp_clause.specs.Clause.{NamesBelow, NamesOnce}
use Rattle.gp_clause.specs.Problem.{IsValidKind}
use Rattle.gp_certificate.specs.declared.bench.Bench.TheInside.{Inside}
use Rattle.gp_certificate.specs.Assignment.{IsKept}
use Rattle.gp_certificate.specs.ClauseList.{joined}
use Rattle.gp_certificate.specs.Counting.{IsExact}
use Rattle.gp_certificate.specs.Levels.{Stack, IsStack}
use Rattle.gp_certificate.specs.Places.{AreFixed}

-- a bench: the fixed edges on so many points, the kinds of the variables, the first of which last when locals change, the
-- clauses that are loaded, and the clauses whose literals are made false, level by level, the innermost last
pub record BenchForm : Type 0 where
  pub points : ℕ
  pub edges : List Edge
  pub lasting : List Kind
  pub kinds : List Kind
  pub loaded : List (List Lit)
  pub assumed : List (List Lit)

-- more clauses were loaded after those that a bench had
abbrev pub HasLoaded : BenchForm → BenchForm → Type 0
HasLoaded old new = (more : List (List Lit)) × (new ≡ record old { loaded = old.loaded ++ more })

-- besides, the locals may have changed
abbrev pub HasTested : BenchForm → BenchForm → Type 0
HasTested old new = (kinds : List Kind) × HasLoaded (record old { kinds = kinds }) new

-- what a bench has at its innermost level
abbrev pub stack_of : Inside → Stack
stack_of bench = record {
  assumed = bench.assumed.lists;
  levels = bench.levels.items;
  trail = bench.assignment.trail.items;
  kept = bench.places.graph.kept;
  cursor = bench.assignment.cursor;
}

-- the levels were made one after another, each loaded clause is listed and counted, and there is room for one level a variable
-- and one more
pub record IsReady (bench : Inside) : Type 0 where
  pub kept : IsKept bench.assignment
  pub size : length bench.assignment.values.items ≡ length bench.kinds.items
  pub lasting : bench.lasting ≤ length bench.kinds.items
  pub few : bench.lasting < 2 ^ 30
  pub kinds : All (IsValidKind bench.places.graph.points) bench.kinds.items
  pub fixed : AreFixed bench.places
  pub room : length bench.kinds.items ≤ length bench.places.graph.kept + bench.places.graph.room
  pub within : All (NamesBelow (length bench.kinds.items)) bench.loaded.clauses
  pub once : All NamesOnce bench.loaded.clauses
  pub rows : 2 * length bench.kinds.items ≤ bench.loaded.rows
  pub exact : IsExact bench.assignment bench.loaded
  pub stack : IsStack bench.places.edges bench.kinds.items bench.loaded.clauses (stack_of bench)
  pub below : NamesBelow (length bench.kinds.items) (joined bench.assumed.lists)
  pub names : NamesOnce (joined bench.assumed.lists)
  pub levels : length bench.kinds.items < vec_capacity bench.levels
  pub lits : length bench.kinds.items ≤ bench.assumed.room
  pub lists : length bench.kinds.items < bench.assumed.places
