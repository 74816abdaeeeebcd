-- What passes between the workers of a window, as their records and the passes of their inboxes tell it.
use Rattle.std.specs.Prelude.{ℕ, ◌≡◌, ◌+◌, ◌-◌, ◌<◌, ◌≤◌, nat_lt, if◌then◌else◌, Option, None, Some, List, [], ◌∷◌, ◌++◌, length, map, flat_map, slice_get, replicate, All, Contains}
use Rattle.std.specs.List.{range_with_len}
use Rattle.crossbeam_queue.specs.Passes.{Pass, view}
use Rattle.gp_clause.specs.declared.lit.Lit.{Lit}
use Rattle.gp_clause.specs.declared.problem.Problem.{Problem}
use Rattle.gp_derivation.specs.declared.exchange.SharedClause.{SharedClause}
use Rattle.gp_derivation.specs.declared.log.LogEntry.{LogEntry}
use Rattle.gp_derivation.specs.declared.log.Origin.{Origin}
use Rattle.gp_derivation.specs.declared.log.Origin.TheVariants.{Learned, Taken}
use Rattle.gp_derivation.specs.declared.record.Offered.{Offered}
use Rattle.gp_derivation.specs.declared.record.Sent.{Sent}
use Rattle.gp_derivation.specs.declared.record.Sent.TheVariants.{Pushed, Full}
use Rattle.gp_derivation.specs.declared.record.WorkerRecord.{WorkerRecord}
use Rattle.gp_inbox.specs.declared.rule.View.{View}
use Rattle.gp_inbox.specs.History.{sent_by}
use Rattle.gp_search.specs.Mail.{taken_entry}
use Rattle.gp_workers.specs.declared.work.WindowWork.{WindowWork}
use Rattle.gp_workers.specs.Mail.{OffersLearned, taken_entries}

-- the numbers of so many workers, from 1, without that of the worker at a place
abbrev pub others : ℕ → ℕ → List ℕ
others count place = range_with_len 1 place ++ range_with_len (place + 2) (count - (place + 1))

-- each offer has the same mark for each other of so many workers: the first 1,024 are pushed to all, and all later ones to none
abbrev pub AreMarked : ℕ → List Offered → Type 0
AreMarked count offers = (place : ℕ) (offered : Offered) → slice_get offers place ≡ Some offered
    → (place < 1024 → offered.sent ≡ replicate (count - 1) Pushed) × (1024 ≤ place → offered.sent ≡ replicate (count - 1) Full)

-- the clause of an entry, where there is one
abbrev pub clause_of : Option LogEntry → List (List Lit)
clause_of None = []
clause_of (Some entry) = entry.step.clause ∷ []

-- these clauses, where the mark is that they were pushed
abbrev pub where_pushed : Option Sent → List (List Lit) → List (List Lit)
where_pushed None clauses = []
where_pushed (Some Pushed) clauses = clauses
where_pushed (Some Full) clauses = []

-- the mark of an offer of the worker at one place for the worker at another: an offer has no mark for its own worker
abbrev pub mark_for : ℕ → ℕ → Offered → Option Sent
mark_for own taker offered = slice_get offered.sent (if nat_lt taker own then taker else taker - 1)

-- the clauses that the record of the worker at one place marks as pushed to the worker at another, in order
abbrev pub pushed_to : WorkerRecord → ℕ → ℕ → List (List Lit)
pushed_to one own taker = flat_map (λ (offered : Offered). where_pushed (mark_for own taker offered) (clause_of (slice_get one.log offered.entry))) one.offered

-- a record offers exactly the learned entries of its log that are fit to share, in order, and marks them
pub record OffersAll (problem : Problem) (count : ℕ) (own : WorkerRecord) : Type 0 where
  pub offered : List (ℕ × List Lit)
  pub learned : OffersLearned problem own.log offered
  pub entries : map (λ (one : Offered). one.entry) own.offered ≡ map (λ (one : ℕ × List Lit). one.0) offered
  pub marked : AreMarked count own.offered

-- where an origin is that of a taken entry, it names one of the workers of these numbers
abbrev pub IsFromOneOf : List ℕ → Origin → Type 0
IsFromOneOf numbers Learned = Unit {0}
IsFromOneOf numbers (Taken sender certificate) = Contains numbers sender

-- the worker at a place took each taken entry of its log from one of the others of so many workers
abbrev pub TakesFromOthers : ℕ → ℕ → List LogEntry → Type 0
TakesFromOthers count place log = All (λ (entry : LogEntry). IsFromOneOf (others count place) entry.origin) log

-- what the pass that is handed out for the inbox of the worker at a place knows, beside the records of all workers: of each
-- other worker what its record marks as pushed, all of which was taken; and first that which the worker's own log took
pub record IsHandedOut (problem : Problem) (count : ℕ) (records : List WorkerRecord) (place : ℕ) (seen : View) : Type 0 where
  pub base : seen.base ≡ Some problem
  pub senders : seen.senders ≡ others count place
  pub pushed : (from : ℕ) (one : WorkerRecord) → slice_get records from ≡ Some one → (from ≡ place → ⊥)
      → map (λ (shared : SharedClause). shared.clause) (sent_by (from + 1) seen.pushed) ≡ pushed_to one from place
  pub taken : (from : ℕ) → from < count → (from ≡ place → ⊥) → sent_by (from + 1) seen.taken ≡ sent_by (from + 1) seen.pushed
  pub first : (own : WorkerRecord) → slice_get records place ≡ Some own
      → (front : List SharedClause) × (more : List SharedClause) × (seen.taken ≡ front ++ more) × (map taken_entry front ≡ taken_entries own.log)

-- so many workers, two or more, offered all that is fit to share by their records, each took only from the others, and the pass
-- of each inbox is handed out
pub record AllShared (problem : Problem) (count : ℕ) (records : List WorkerRecord) (passes : List (Pass SharedClause View)) : Type 0 where
  pub workers : length records ≡ count
  pub offers : All (OffersAll problem count) records
  pub from : (place : ℕ) (own : WorkerRecord) → slice_get records place ≡ Some own → TakesFromOthers count place own.log
  pub inboxes : length passes ≡ count
  pub each : (place : ℕ) (pass : Pass SharedClause View) → slice_get passes place ≡ Some pass → IsHandedOut problem count records place (view pass)

-- by these records nothing was offered, and nothing was taken
pub record ShareNothing (records : List WorkerRecord) : Type 0 where
  pub offers : All (λ (own : WorkerRecord). own.offered ≡ []) records
  pub taken : All (λ (own : WorkerRecord). taken_entries own.log ≡ []) records

-- nothing was offered, nothing was taken, and there is no inbox
pub record WorksAlone (work : WindowWork) : Type 0 where
  pub records : ShareNothing work.records
  pub passes : work.passes ≡ []
