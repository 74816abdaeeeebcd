-- What the workers of a window answer to its queries.
use Rattle.std.specs.Prelude.{ℕ, ◌≡◌, ◌+◌, ◌-◌, ◌*◌, ◌≤◌, List, [], ◌∷◌, Option, None, Some, length, slice_get, All, IsSomeAnd}
use Rattle.gp_clause.specs.declared.problem.Problem.{Problem}
use Rattle.gp_clause.specs.declared.problem.Query.{Query}
use Rattle.gp_clause.specs.Problem.{IsValidProblem, IsValidQuery}
use Rattle.gp_clause.specs.Valuation.{Meets}
use Rattle.gp_derivation.specs.declared.record.WorkerRecord.{WorkerRecord}
use Rattle.gp_certificate.specs.declared.certificate.Certificate.{Certificate}
use Rattle.gp_certificate.specs.declared.step.Step.{Step}
use Rattle.gp_derivation.specs.declared.log.LogEntry.{LogEntry}
use Rattle.gp_derivation.specs.Cones.{RefutesByCone, cone_of}
use Rattle.gp_derivation.specs.Numbering.{CanBeNumbered}
use Rattle.gp_derivation.specs.Spent.{HasTurnSpentOn}
use Rattle.gp_clause.specs.Edge.{IsSolvable}
use Rattle.gp_workers.specs.declared.work.WindowWork.{WindowWork}
use Rattle.gp_workers.specs.declared.work.WorkAnswer.{WorkAnswer}
use Rattle.gp_workers.specs.declared.work.WorkAnswer.TheVariants.{Model, Refuted, Spent}
use Rattle.gp_workers.specs.Record.{EachOnce, IsWorkerRecord}

-- the worker of this number, from 1, has a turn with the ticket that is spent on the entries from one number to another
pub record IsSpentBy (problem : Problem) (query : Query) (budget : ℕ) (workers : List WorkerRecord) (ticket worker from to : ℕ) : Type 0 where
  pub counts : 1 ≤ worker
  pub own : IsSomeAnd (slice_get workers (worker - 1)) (λ own. HasTurnSpentOn problem query own ticket budget from to)

-- the worker of this number, from 1, refutes a query by the cone of a step over its log
pub record IsRefutedBy (problem : Problem) (query : Query) (workers : List WorkerRecord) (worker : ℕ) (last : Step) : Type 0 where
  pub counts : 1 ≤ worker
  pub own : IsSomeAnd (slice_get workers (worker - 1)) (λ own. RefutesByCone problem query own.log last)

-- the cone of a step over the log of the worker of a number can be made
pub record CanBeCertified (bases : ℕ) (workers : List WorkerRecord) (worker : ℕ) (last : Step) : Type 0 where
  pub counts : 1 ≤ worker
  pub own : IsSomeAnd (slice_get workers (worker - 1)) (λ own. CanBeNumbered bases own.log last)

-- the log of a worker, if there is one
abbrev pub log_in : Option WorkerRecord → List LogEntry
log_in None = []
log_in (Some own) = own.log

-- the cone of a step over the log of the worker of a number
abbrev pub certificate_by : ℕ → List WorkerRecord → ℕ → Step → Certificate
certificate_by bases workers worker last = cone_of bases (log_in (slice_get workers (worker - 1))) last

-- what an answer to the query with a ticket says
abbrev pub IsAnswerTo : Problem → Query → ℕ → List WorkerRecord → ℕ → WorkAnswer → Type 0
IsAnswerTo problem query budget workers ticket (Model valuation) = Meets problem query valuation
IsAnswerTo problem query budget workers ticket (Refuted worker last) = IsRefutedBy problem query workers worker last
IsAnswerTo problem query budget workers ticket (Spent worker from to) = IsSpentBy problem query budget workers ticket worker from to

-- answers to queries, one for each in order, the first of which has this ticket
abbrev pub AnswerEach : Problem → ℕ → List WorkerRecord → ℕ → List Query → List WorkAnswer → Type 0
AnswerEach problem budget workers ticket [] [] = Unit {0}
AnswerEach problem budget workers ticket (query ∷ queries) (answer ∷ answers) =
    IsAnswerTo problem query budget workers ticket answer × AnswerEach problem budget workers (ticket + 1) queries answers
AnswerEach problem budget workers ticket _ _ = ⊥

-- the work of so many workers on the queries of a window, each with this budget
pub record IsWork (problem : Problem) (queries : List Query) (count budget : ℕ) (work : WindowWork) : Type 0 where
  pub answers : AnswerEach problem budget work.records 0 queries work.answers
  pub workers : length work.records ≡ count
  pub records : All (IsWorkerRecord problem) work.records
  pub once : EachOnce (length queries) work.records

-- queries that workers can be asked: few enough for their budget, to a problem that is not too large
pub record CanBeWorked (problem : Problem) (queries : List Query) (budget : ℕ) : Type 0 where
  pub few_clauses : length problem.clauses ≤ 500000
  pub least : 1 ≤ budget
  pub few : length queries * budget ≤ 1000000

-- what can be asked of workers: valid queries to a valid problem whose edges can be kept, few enough for the budget
pub record CanBeAsked (problem : Problem) (queries : List Query) (budget : ℕ) : Type 0 where
  pub valid : IsValidProblem problem
  pub solvable : IsSolvable problem.edges
  pub each : All (IsValidQuery problem) queries
  pub few : CanBeWorked problem queries budget
