-- The records of the workers of a window.
use Rattle.std.specs.Prelude.{ℕ, ◌≡◌, ◌<◌, ◌≤◌, Some, List, [], ◌∷◌, length, map, flat_map, slice_get, All, IsPermutation}
use Rattle.std.specs.List.{range_with_len}
use Rattle.gp_clause.specs.declared.problem.Problem.{Problem}
use Rattle.gp_clause.specs.Follows.{Follows}
use Rattle.gp_derivation.specs.declared.log.LogEntry.{LogEntry}
use Rattle.gp_derivation.specs.declared.record.Turn.{Turn}
use Rattle.gp_derivation.specs.declared.record.WorkerRecord.{WorkerRecord}
use Rattle.gp_derivation.specs.Log.{IsLearned, IsTaken}

-- the clause of each taken entry of a log follows from the problem
abbrev pub TakenFollow : Problem → List LogEntry → Type 0
TakenFollow problem log = All (λ (entry : LogEntry). IsTaken entry.origin → Follows problem.points problem.edges problem.kinds problem.clauses entry.step.clause) log

-- a turn first took the entries of a log from where it begins to where it learned from, and then learned those up to its end
pub record TakesThenLearns (log : List LogEntry) (turn : Turn) : Type 0 where
  pub order : (turn.begins ≤ turn.learned) × (turn.learned ≤ turn.ends)
  pub took : (place : ℕ) (entry : LogEntry) → slice_get log place ≡ Some entry → turn.begins ≤ place → place < turn.learned → IsTaken entry.origin
  pub learned : (place : ℕ) (entry : LogEntry) → slice_get log place ≡ Some entry → turn.learned ≤ place → place < turn.ends → IsLearned entry.origin

-- turns cover a log from one place to another without a gap: each took some entries and then learned some
abbrev pub TurnsCover : List LogEntry → ℕ → ℕ → List Turn → Type 0
TurnsCover log from to [] = from ≡ to
TurnsCover log from to (turn ∷ turns) = (turn.begins ≡ from) × TakesThenLearns log turn × TurnsCover log turn.ends to turns

-- the record of a worker: what it took follows, and its turns cover its log
pub record IsWorkerRecord (problem : Problem) (worker : WorkerRecord) : Type 0 where
  pub taken : TakenFollow problem worker.log
  pub covered : TurnsCover worker.log 0 (length worker.log) worker.turns

-- the tickets of a worker's turns
abbrev pub tickets_of : WorkerRecord → List ℕ
tickets_of worker = map (λ (turn : Turn). turn.ticket) worker.turns

-- each ticket below a number stands in exactly one turn of exactly one worker, and no other ticket does
abbrev pub EachOnce : ℕ → List WorkerRecord → Type 0
EachOnce count workers = IsPermutation (range_with_len 0 count) (flat_map tickets_of workers)
