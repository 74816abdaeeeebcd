-- What a search keeps true of its state.
use Rattle.std.specs.Prelude.{◌≡◌, ℕ, ◌+◌, ◌-◌, ◌*◌, ◌^◌, ◌<◌, ◌≤◌, ◌⊎◌, Bool, true, false, not, Option, Some, None, List, [], ◌∷◌, ◌++◌, length, map, replicate, take, All, Contains, slice_get, slice_index_or}
use Rattle.gp_clause.specs.declared.kind.Kind.{Kind}
use Rattle.gp_clause.specs.declared.lit.Lit.{Lit}
use Rattle.gp_clause.specs.declared.problem.Problem.{Problem}
use Rattle.gp_clause.specs.declared.problem.Query.{Query}
use Rattle.gp_clause.specs.Clause.{NamesBelow, IsRising}
use Rattle.gp_clause.specs.Problem.{IsValidProblem, IsValidQuery}
use Rattle.gp_derivation.specs.declared.log.LogEntry.{LogEntry}
use Rattle.gp_derivation.specs.declared.record.Turn.{Turn}
use Rattle.gp_derivation.specs.Log.{IsLearned, IsPure, LogPasses, logged}
use Rattle.gp_derivation.specs.Numbering.{size_of}
use Rattle.gp_derivation.specs.Spent.{LearnsWhatIsNew, LearnsWhatIsTight}
use Rattle.gp_certificate.specs.Step.{Passes}
use Rattle.gp_derivation.specs.Tester.{TesterForm}
use Rattle.gp_difference.specs.Graph.{GraphForm}
use Rattle.gp_sat.specs.declared.assigned.Assigned.{Assigned}
use Rattle.gp_sat.specs.Stored.{Stored}
use Rattle.gp_sat.specs.State.{SolverForm, assigned, clause_at, IsAttached}
use Rattle.gp_sat.specs.Standing.{IsFalse, IsClosed, Each}
use Rattle.gp_sat.specs.Sound.{IsSound, true_lit}
use Rattle.gp_sat.specs.Changes.{HasPresent, IsOfLevel}
use Rattle.gp_sat.specs.Looking.{IsTrueLit}
use Rattle.gp_search.specs.declared.engine.Engine.{Engine}
use Rattle.gp_search.specs.declared.engine.Level.{Level}
use Rattle.gp_search.specs.Bounds.{bounds_along}

-- the kinds of all variables of a problem and a query
abbrev pub all_kinds : Problem → Query → List Kind
all_kinds problem query = problem.kinds ++ query.locals

-- the entry at a place is pure, and its clause names problem variables only
pub record IsPlain (problem : Problem) (log : List LogEntry) (place : ℕ) : Type 0 where
  pub pure : IsPure problem log place
  pub below : (entry : LogEntry) → slice_get log place ≡ Some entry → NamesBelow (length problem.kinds) entry.step.clause

-- each entry has a mark, the marked ones are plain, and each pure one is marked
pub record IsMarked (problem : Problem) (log : List LogEntry) (marks : List Bool) : Type 0 where
  pub size : length marks ≡ length log
  pub plain : (place : ℕ) → slice_index_or marks place false ≡ true → IsPlain problem log place
  pub pure : (place : ℕ) → IsPure problem log place → slice_index_or marks place false ≡ true

-- the clauses of the solver are those that hints number; the base clauses are attached, and each entry that is attached
-- is plain or of the turn; and what is attached names variables below the number
pub record IsStored (problem : Problem) (begins names : ℕ) (log : List LogEntry) (clauses : List Stored) : Type 0 where
  pub lits : map (λ (stored : Stored). stored.clause) clauses ≡ logged problem log
  pub base : (number : ℕ) → number < length problem.clauses → IsAttached clauses number
  pub named : (number : ℕ) → IsAttached clauses number → NamesBelow names (clause_at clauses number)
  pub usable : (other : ℕ) → IsAttached clauses (length problem.clauses + other) → IsPlain problem log other ⊎ (begins ≤ other)

-- the entries of the turn that begins at a place are attached, and so are all that have a mark
pub record IsKeeping (bases begins logged : ℕ) (marks : List Bool) (clauses : List Stored) : Type 0 where
  pub current : (place : ℕ) → begins ≤ place → place < logged → IsAttached clauses (bases + place)
  pub marked : (place : ℕ) → slice_index_or marks place false ≡ true → IsAttached clauses (bases + place)

-- all entries of a log pass in a turn that begins at a place, each stands for 64 steps at most, and those from another
-- place on were learned
pub record IsPassing (problem : Problem) (locals : List Kind) (log : List LogEntry) (begins from : ℕ) : Type 0 where
  pub began : begins ≤ from
  pub within : from ≤ length log
  pub small : All (λ (entry : LogEntry). size_of entry ≤ 64) log
  pub learned : (place : ℕ) (entry : LogEntry) → slice_get log place ≡ Some entry → from ≤ place → IsLearned entry.origin
  pub passes : LogPasses problem locals log begins

-- a graph has the points and the edges of a problem
pub record IsGraphOf (problem : Problem) (graph : GraphForm) : Type 0 where
  pub points : graph.points ≡ problem.points
  pub edges : graph.edges ≡ problem.edges

-- a tester has the points, the edges and the kinds of a problem
pub record IsTesterOf (problem : Problem) (tester : TesterForm) : Type 0 where
  pub points : tester.points ≡ problem.points
  pub edges : tester.edges ≡ problem.edges
  pub lasting : tester.lasting ≡ problem.kinds

-- how many steps the entries of a log stand for at most: those before a place for 64 each, and the others for one
abbrev pub most_steps : List LogEntry → ℕ → ℕ
most_steps log from = 64 * from + (length log - from)

-- what holds of a problem, a query and an engine at every moment of a turn
pub record IsWhole (problem : Problem) (query : Query) (engine : Engine) : Type 0 where
  pub valid : IsValidProblem problem
  pub asked : IsValidQuery problem query
  pub few : length problem.clauses + most_steps engine.log.items engine.learned + 1 < 2 ^ 32
  pub log : IsPassing problem query.locals engine.log.items engine.begins engine.learned
  pub stored : IsStored problem engine.begins (length (all_kinds problem query)) engine.log.items engine.solver.clauses
  pub keeping : IsKeeping (length problem.clauses) engine.begins (length engine.log.items) engine.pure.items engine.solver.clauses
  pub marked : IsMarked problem engine.log.items engine.pure.items
  pub graph : IsGraphOf problem engine.graph
  pub tester : IsTesterOf problem engine.tester
  pub variables : length problem.kinds ≤ length engine.solver.values

-- the reasons of assignments are attached, and only variables below the number are assigned
pub record IsReasoned (names : ℕ) (s : SolverForm) : Type 0 where
  pub attached : (variable : ℕ) (a : Assigned) (number : ℕ) → assigned s variable ≡ Some a → a.reason ≡ Some number → IsAttached s.clauses number
  pub below : (variable : ℕ) (a : Assigned) → assigned s variable ≡ Some a → variable < names

-- the graph keeps the bounds of a front of the trail, the rest of which is of the present level, and has room for those of
-- all variables
pub record IsAsserted (kinds : List Kind) (s : SolverForm) (graph : GraphForm) (asserted : ℕ) : Type 0 where
  pub within : asserted ≤ length s.trail
  pub kept : graph.kept ≡ bounds_along kinds (take asserted s.trail)
  pub present : (place : ℕ) (d : Lit) → asserted ≤ place → place < length s.trail → IsOfLevel s s.level (slice_index_or s.trail place d)
  pub room : length s.values ≤ length graph.kept + graph.room

-- a literal is true by an assignment up to a level
abbrev pub IsTrueTo : SolverForm → ℕ → Lit → Type 0
IsTrueTo s level lit = (a : Assigned) × (assigned s lit.variable ≡ Some a) × (a.positive ≡ lit.positive) × (a.level ≤ level)

-- the decisions up to a level are assumed, and above it all that is assumed is true by then
pub record IsAssuming (assumed : List Lit) (s : SolverForm) (level : ℕ) : Type 0 where
  pub within : level ≤ s.level
  pub decided : (variable : ℕ) (a : Assigned) → assigned s variable ≡ Some a → a.reason ≡ None → a.level ≤ level → Contains assumed (true_lit variable a)
  pub all_true : level < s.level → Each (IsTrueTo s level) assumed

-- a level began at a place of the trail: what was assigned before it is of the levels up to another one, and the rest is
-- of higher ones
pub record IsStart (s : SolverForm) (below start : ℕ) : Type 0 where
  pub within : start ≤ length s.trail
  pub before : (variable : ℕ) (a : Assigned) → assigned s variable ≡ Some a → a.place < start → a.level ≤ below
  pub after : (variable : ℕ) (a : Assigned) → assigned s variable ≡ Some a → start ≤ a.place → below < a.level

-- what stood when the level after one began: so many bounds up to there, and assumptions that are true up to that level
pub record IsBegun (kinds : List Kind) (assumed : List Lit) (s : SolverForm) (below : ℕ) (begun : Level) : Type 0 where
  pub start : ℕ
  pub split : IsStart s below start
  pub bounds : begun.bounds ≡ length (bounds_along kinds (take start s.trail))
  pub holds : All (IsTrueTo s below) (take begun.next assumed)

-- what stands for no level
abbrev pub no_level : Level
no_level = record { bounds = 0; next = 0 }

-- each level up to the present one has what stood when it began, and all assumptions before a place are true
pub record IsLevelled (kinds : List Kind) (assumed : List Lit) (s : SolverForm) (levels : List Level) (next : ℕ) : Type 0 where
  pub counted : length levels ≡ s.level
  pub begun : (below : ℕ) → below < s.level → IsBegun kinds assumed s below (slice_index_or levels below no_level)
  pub passed : All (IsTrueLit (assigned s)) (take next assumed)

-- a turn whose ticket does not matter
abbrev pub turn_from : ℕ → ℕ → ℕ → Turn
turn_from begins learned ends = record { ticket = 0; begins = begins; learned = learned; ends = ends }

-- the clause of each entry that a turn learned rises by variable, is new by one of its literals, and is tight
pub record IsTaught (problem : Problem) (query : Query) (log : List LogEntry) (turn : Turn) : Type 0 where
  pub rising : (place : ℕ) (entry : LogEntry) → slice_get log place ≡ Some entry → turn.learned ≤ place → IsRising entry.step.clause
  pub news : LearnsWhatIsNew problem query log turn
  pub tight : LearnsWhatIsTight problem query log turn

-- what holds of an engine between the steps of a turn, which decides the variables of the problem and the query alone
pub record IsTurning (problem : Problem) (query : Query) (engine : Engine) : Type 0 where
  pub whole : IsWhole problem query engine
  pub variables : length (all_kinds problem query) ≤ length engine.solver.values
  pub used : engine.solver.used ≡ length (all_kinds problem query)
  pub kinds : engine.tester.kinds ≡ all_kinds problem query
  pub sound : IsSound engine.solver
  pub reasoned : IsReasoned (length (all_kinds problem query)) engine.solver
  pub asserted : IsAsserted (all_kinds problem query) engine.solver engine.graph engine.asserted
  pub assuming : IsAssuming query.assumed engine.solver engine.assumed
  pub levels : IsLevelled (all_kinds problem query) query.assumed engine.solver engine.levels.items engine.next
  pub taught : IsTaught problem query engine.log.items (turn_from engine.begins engine.learned (length engine.log.items))

-- what holds of an engine while a turn takes clauses: nothing was decided, and nothing was learned
pub record IsTaking (problem : Problem) (query : Query) (engine : Engine) : Type 0 where
  pub turning : IsTurning problem query engine
  pub bottom : engine.solver.level ≡ 0
  pub learned : engine.learned ≡ length engine.log.items

-- each pure entry of a log is attached, so that the queries to come have it
abbrev pub KeepsPure : Problem → List LogEntry → List Stored → Type 0
KeepsPure problem log clauses = (place : ℕ) → IsPure problem log place → IsAttached clauses (length problem.clauses + place)

-- no variable of a solver is assigned
pub record IsBlank (s : SolverForm) : Type 0 where
  pub values : s.values ≡ replicate (length s.values) None
  pub trail : s.trail ≡ []
  pub level : s.level ≡ 0

-- what holds of a problem and an engine between turns
pub record IsIdle (problem : Problem) (engine : Engine) : Type 0 where
  pub valid : IsValidProblem problem
  pub log : IsPassing problem [] engine.log.items (length engine.log.items) (length engine.log.items)
  pub stored : IsStored problem (length engine.log.items) (length problem.kinds) engine.log.items engine.solver.clauses
  pub keeping : IsKeeping (length problem.clauses) (length engine.log.items) (length engine.log.items) engine.pure.items engine.solver.clauses
  pub marked : IsMarked problem engine.log.items engine.pure.items
  pub pure : KeepsPure problem engine.log.items engine.solver.clauses
  pub graph : IsGraphOf problem engine.graph
  pub tester : IsTesterOf problem engine.tester
  pub variables : length problem.kinds ≤ length engine.solver.values
  pub blank : IsBlank engine.solver
  pub kept : engine.graph.kept ≡ []
  pub few : engine.learned < 2 ^ 32

-- the clause of a number, if there is one
abbrev pub numbered : SolverForm → Option ℕ → List (List Lit)
numbered s None = []
numbered s (Some number) = clause_at s.clauses number ∷ []

-- a number is that of an attached clause, if there is one
abbrev pub IsNumber : SolverForm → Option ℕ → Type 0
IsNumber s None = Unit {0}
IsNumber s (Some number) = IsAttached s.clauses number

-- a clause is false, one of its literals is of the present level if that is above 0, and it passes with the clause of its
-- number or, without one, with none
pub record IsConflict (problem : Problem) (query : Query) (s : SolverForm) (lits : List Lit) (number : Option ℕ) : Type 0 where
  pub all_false : Each (IsFalse (assigned s)) lits
  pub present : 0 < s.level → HasPresent s lits
  pub attached : IsNumber s number
  pub passes : Passes problem.edges (all_kinds problem query) (numbered s number) lits

-- whether an assignment is false
abbrev pub is_false : Option Assigned → Bool
is_false None = false
is_false (Some a) = not a.positive

-- the false literal of an assigned variable
abbrev pub false_lit : SolverForm → ℕ → Lit
false_lit s variable = record { variable = variable; positive = is_false (assigned s variable) }

-- the trail is closed, and the graph keeps the bounds of all of it
pub record IsSettled (engine : Engine) : Type 0 where
  pub closed : IsClosed engine.solver engine.solver.level
  pub all : engine.asserted ≡ length engine.solver.trail
