-- What a turn that ran out of its budget learned.
use Rattle.std.specs.Prelude.{ℕ, ◌≡◌, ◌+◌, ◌-◌, ◌<◌, ◌≤◌, Bool, List, ◌++◌, Some, length, map, take, drop, slice_get, Contains}
use Rattle.gp_clause.specs.declared.lit.Lit.{Lit}
use Rattle.gp_clause.specs.declared.problem.Problem.{Problem}
use Rattle.gp_clause.specs.declared.problem.Query.{Query}
use Rattle.gp_derivation.specs.declared.log.LogEntry.{LogEntry}
use Rattle.gp_derivation.specs.declared.record.Turn.{Turn}
use Rattle.gp_derivation.specs.declared.record.WorkerRecord.{WorkerRecord}
use Rattle.gp_clause.specs.Closure.{Derived}
use Rattle.gp_clause.specs.Lit.{opposite, negations}
use Rattle.gp_derivation.specs.Log.{IsLearned, EntryPasses, logged}
use Rattle.gp_certificate.specs.Step.{LeadsToConflict, named}
use Rattle.gp_derivation.specs.Tight.{IsTight, left_out}

-- a turn learned so many entries of a log as its budget
pub record LearnsItsBudget (log : List LogEntry) (budget : ℕ) (turn : Turn) : Type 0 where
  pub counted : turn.ends ≡ turn.learned + budget
  pub logged : turn.ends ≤ length log
  pub learned : (place : ℕ) (entry : LogEntry) → slice_get log place ≡ Some entry → turn.learned ≤ place → place < turn.ends → IsLearned entry.origin

-- each entry that a turn learned passes in it
abbrev pub LearnsWhatPasses : Problem → Query → List LogEntry → Turn → Type 0
LearnsWhatPasses problem query log turn = (place : ℕ) (entry : LogEntry) → slice_get log place ≡ Some entry → turn.learned ≤ place → place < turn.ends
    → EntryPasses problem query.locals log turn.begins place entry

-- the clauses that a place of a turn may use freely: those of the problem, and those of the turn's entries before it
abbrev pub turned : Problem → List LogEntry → Turn → ℕ → List (List Lit)
turned problem log turn place = problem.clauses ++ map (λ (entry : LogEntry). entry.step.clause) (take (place - turn.begins) (drop turn.begins log))

-- the start that makes each assumption true, and each literal of a clause false but one
abbrev pub start_beside : Query → List Lit → Lit → List Lit
start_beside query clause lit = query.assumed ++ negations (left_out lit clause)

-- a clause is new by a literal: from the assumptions and the negation of its other literals, which contradict one another
-- nowhere, the clauses neither refute nor give this literal a value
pub record IsNewBy (problem : Problem) (query : Query) (clauses : List (List Lit)) (clause : List Lit) (lit : Lit) : Type 0 where
  pub within : Contains clause lit
  pub agrees : (one : Lit) → Contains (start_beside query clause lit) one → Contains (start_beside query clause lit) (opposite one) → ⊥
  pub open_still : LeadsToConflict problem.edges (problem.kinds ++ query.locals) clauses (start_beside query clause lit) → ⊥
  pub unassigned : (sign : Bool) → Derived (start_beside query clause lit) clauses (record { variable = lit.variable; positive = sign }) → ⊥

-- each entry that a turn learned is new by one of its literals
abbrev pub LearnsWhatIsNew : Problem → Query → List LogEntry → Turn → Type 0
LearnsWhatIsNew problem query log turn = (place : ℕ) (entry : LogEntry) → slice_get log place ≡ Some entry → turn.learned ≤ place → place < turn.ends
    → (lit : Lit) × IsNewBy problem query (turned problem log turn place) entry.step.clause lit

-- each entry that a turn learned is tight: with any one literal left out it does not pass with the same hints
abbrev pub LearnsWhatIsTight : Problem → Query → List LogEntry → Turn → Type 0
LearnsWhatIsTight problem query log turn = (place : ℕ) (entry : LogEntry) → slice_get log place ≡ Some entry → turn.learned ≤ place → place < turn.ends
    → IsTight problem.edges (problem.kinds ++ query.locals) (named (logged problem log) entry.step.hints) entry.step.clause

-- a turn is spent on the entries from one number to another: it learned them, so many as its budget, and each passes, is
-- new and is tight
pub record IsSpentOn (problem : Problem) (query : Query) (log : List LogEntry) (budget : ℕ) (turn : Turn) (from to : ℕ) : Type 0 where
  pub begins : turn.learned ≡ from
  pub ends : turn.ends ≡ to
  pub learning : LearnsItsBudget log budget turn
  pub passing : LearnsWhatPasses problem query log turn
  pub news : LearnsWhatIsNew problem query log turn
  pub tight : LearnsWhatIsTight problem query log turn

-- a turn that is spent on some entries of a log stays so when the log grows at its end
abbrev pub SpentStays : Type 0
SpentStays = (problem : Problem) (query : Query) (log more : List LogEntry) (budget : ℕ) (turn : Turn) (from to : ℕ) → IsSpentOn problem query log budget turn from to
    → IsSpentOn problem query (log ++ more) budget turn from to

-- a record has a turn with some ticket that is spent on the entries from one number to another
abbrev pub HasTurnSpentOn : Problem → Query → WorkerRecord → ℕ → ℕ → ℕ → ℕ → Type 0
HasTurnSpentOn problem query worker ticket budget from to = (turn : Turn) × Contains worker.turns turn × (turn.ticket ≡ ticket) × IsSpentOn problem query worker.log budget turn from to
