-- What the records of workers tell of what one pushed and another took.
use Rattle.std.specs.Prelude.{ℕ, ◌≡◌, ◌≢◌, ◌+◌, ◌<◌, ◌≤◌, ◌==◌, Bool, false, Some, List, ◌++◌, map, filter, slice_get, All}
use Rattle.crossbeam_queue.specs.Passes.{Pass}
use Rattle.gp_clause.specs.declared.lit.Lit.{Lit}
use Rattle.gp_clause.specs.declared.problem.Problem.{Problem}
use Rattle.gp_derivation.specs.declared.log.LogEntry.{LogEntry}
use Rattle.gp_derivation.specs.declared.log.Origin.{Origin}
use Rattle.gp_derivation.specs.declared.log.Origin.TheVariants.{Learned, Taken}
use Rattle.gp_derivation.specs.declared.exchange.SharedClause.{SharedClause}
use Rattle.gp_derivation.specs.declared.record.WorkerRecord.{WorkerRecord}
use Rattle.gp_inbox.specs.declared.rule.View.{View}
use Rattle.gp_workers.specs.Sharing.{AllShared, OffersAll, pushed_to, TakesFromOthers}

-- whether an origin is that of an entry that was taken from the worker of a number
abbrev pub was_taken_from : ℕ → Origin → Bool
was_taken_from number Learned = false
was_taken_from number (Taken sender certificate) = sender == number

-- the clauses that a log took from the worker of a number, in order
abbrev pub taken_from : ℕ → List LogEntry → List (List Lit)
taken_from number log = map (λ (entry : LogEntry). entry.step.clause) (filter (λ (entry : LogEntry). was_taken_from number entry.origin) log)

-- a list of clauses begins with another
abbrev pub BeginsWith : List (List Lit) → List (List Lit) → Type 0
BeginsWith clauses front = (more : List (List Lit)) × (front ++ more ≡ clauses)

-- the records of so many workers tell what passed between them: each offers all that is fit to share and took only from the
-- others, and what one of them took from another is a prefix of what the other's record marks as pushed to it
pub record AreSharing (problem : Problem) (count : ℕ) (records : List WorkerRecord) : Type 0 where
  pub offers : All (OffersAll problem count) records
  pub from : (place : ℕ) (own : WorkerRecord) → slice_get records place ≡ Some own → TakesFromOthers count place own.log
  pub prefixes : (place other : ℕ) (own one : WorkerRecord) → (other ≡ place → ⊥) → slice_get records place ≡ Some own → slice_get records other ≡ Some one
      → BeginsWith (pushed_to one other place) (taken_from (other + 1) own.log)

-- the records of workers that shared all tell so
abbrev pub TakesPrefixes : Type 0
TakesPrefixes = (problem : Problem) (count : ℕ) (records : List WorkerRecord) (passes : List (Pass SharedClause View)) → AllShared problem count records passes → AreSharing problem count records

-- where an origin is that of a taken entry, it names one of so many workers, by its number from 1, and not the one of this number
abbrev pub IsFromAnother : ℕ → ℕ → Origin → Type 0
IsFromAnother count own Learned = Unit {0}
IsFromAnother count own (Taken sender certificate) = (1 ≤ sender) × (sender ≤ count) × (sender ≢ own)

-- so it is in each log that took only from the others
abbrev pub TakesFromAnother : Type 0
TakesFromAnother = (count place : ℕ) (log : List LogEntry) → place < count → TakesFromOthers count place log → All (λ (entry : LogEntry). IsFromAnother count (place + 1) entry.origin) log
