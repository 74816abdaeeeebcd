-- What workers hand back, and what was gathered of it.
use Rattle.std.specs.Prelude.{ℕ, ◌≡◌, ◌+◌, List, [], ◌∷◌, length, flat_map, slice_get, All, IsSomeAnd}
use Rattle.gp_clause.specs.declared.problem.Problem.{Problem}
use Rattle.gp_clause.specs.declared.problem.Query.{Query}
use Rattle.gp_derivation.specs.declared.record.WorkerRecord.{WorkerRecord}
use Rattle.gp_tickets.specs.declared.drawn.Made.{Made}
use Rattle.gp_workers.specs.declared.crew.Worked.{Worked}
use Rattle.gp_tickets.specs.declared.tickets.Tickets.{Tickets}
use Rattle.gp_workers.specs.declared.crew.Gathered.{Gathered}
use Rattle.gp_workers.specs.declared.crew.Job.{Job}
use Rattle.gp_tickets.specs.Drawn.{drawers_of, HasDrawn}
use Rattle.gp_tickets.specs.Tickets.{hand_of, IsUnused}
use Rattle.gp_workers.specs.declared.work.WorkAnswer.{WorkAnswer}
use Rattle.gp_workers.specs.Worker.{AnswersOwn}
use Rattle.gp_workers.specs.Record.{IsWorkerRecord, tickets_of}
use Rattle.gp_workers.specs.Work.{IsAnswerTo}

-- the job of the worker with this number: a drawer of its own, before its first draw
abbrev pub IsJob : Tickets → ℕ → Job → Type 0
IsJob tickets number job = (job.number ≡ number) × IsUnused tickets job.drawer

-- what the worker of a number hands back: its one drawer was told that no ticket is left, and its answers and its turns are
-- those of the tickets that it drew, in order
pub record IsDone (tickets : Tickets) (problem : Problem) (queries : List Query) (budget number : ℕ) (worked : Worked) : Type 0 where
  pub drawn : HasDrawn tickets worked.drawn
  pub single : drawers_of worked.drawn ≡ 1
  pub answered : All (AnswersOwn problem queries budget number worked.record) worked.drawn.made.items
  pub tickets_drawn : tickets_of worked.record ≡ (hand_of worked.drawn.drawer).drawn
  pub own : IsWorkerRecord problem worked.record

-- what the workers hand back that are numbered from here on
abbrev pub AreDone : Tickets → Problem → List Query → ℕ → ℕ → List Worked → Type 0
AreDone tickets problem queries budget number [] = Unit {0}
AreDone tickets problem queries budget number (worked ∷ more) =
    IsDone tickets problem queries budget number worked × AreDone tickets problem queries budget (number + 1) more

-- the answer to a ticket, by the records of the workers
abbrev pub Answers : Problem → List Query → ℕ → List WorkerRecord → Made WorkAnswer → Type 0
Answers problem queries budget workers answered =
    IsSomeAnd (slice_get queries answered.number) (λ query. IsAnswerTo problem query budget workers answered.number answered.value)

-- what was gathered of the first workers: one drawer for theirs with their answers, and their records by number
pub record IsGathered (tickets : Tickets) (problem : Problem) (queries : List Query) (budget : ℕ) (gathered : Gathered) : Type 0 where
  pub drawn : HasDrawn tickets gathered.drawn
  pub drawers : drawers_of gathered.drawn ≡ length gathered.records.items
  pub answered : All (Answers problem queries budget gathered.records.items) gathered.drawn.made.items
  pub turns : flat_map tickets_of gathered.records.items ≡ (hand_of gathered.drawn.drawer).drawn
  pub records : All (IsWorkerRecord problem) gathered.records.items
