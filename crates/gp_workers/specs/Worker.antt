-- What one worker does, and what it has done.
use Rattle.std.specs.Prelude.{ℕ, ◌≡◌, ◌+◌, ◌*◌, ◌≤◌, Option, List, [], ◌∷◌, ◌++◌, length, slice_get, All, IsSomeAnd}
use Rattle.gp_clause.specs.declared.kind.Kind.{Kind}
use Rattle.gp_clause.specs.declared.problem.Problem.{Problem}
use Rattle.gp_clause.specs.declared.problem.Query.{Query}
use Rattle.gp_clause.specs.Valuation.{Meets}
use Rattle.gp_derivation.specs.declared.log.LogEntry.{LogEntry}
use Rattle.gp_derivation.specs.declared.record.WorkerRecord.{WorkerRecord}
use Rattle.gp_derivation.specs.Cones.{RefutesByCone}
use Rattle.gp_derivation.specs.Log.{LogPasses}
use Rattle.gp_derivation.specs.Spent.{HasTurnSpentOn}
use Rattle.gp_search.specs.declared.verdict.Verdict.{Verdict}
use Rattle.gp_search.specs.declared.verdict.Verdict.TheVariants as verdict
use Rattle.gp_search.specs.Mail.{MailForm}
use Rattle.gp_search.specs.Verdict.{LearnsAndShares, turn_of}
use Rattle.gp_tickets.specs.declared.drawn.Made.{Made}
use Rattle.gp_workers.specs.declared.work.WorkAnswer.{WorkAnswer}
use Rattle.gp_workers.specs.declared.work.WorkAnswer.TheVariants as answer
use Rattle.gp_workers.specs.declared.worker.Worker.{Worker}
use Rattle.gp_tickets.specs.Drawn.{numbers_of}
use Rattle.gp_workers.specs.Record.{TurnsCover, tickets_of}
use Rattle.gp_workers.specs.Mail.{given_by, SharesSoFar}

-- the record of a worker so far
abbrev pub record_of : Worker → WorkerRecord
record_of worker = record { log = worker.search.log; turns = worker.turns.items; offered = [] }

-- the record of a worker that had no turn
abbrev pub empty_record : WorkerRecord
empty_record = record { log = []; turns = []; offered = [] }

-- a worker before its first turn
pub record IsFresh (worker : Worker) : Type 0 where
  pub log : worker.search.log ≡ []
  pub turns : worker.turns.items ≡ []

-- a worker took one turn more at the query of a ticket: it took and learned what was added to its log, by what its mail told
-- before and after
pub record TakesTurn (query : Query) (ticket budget : ℕ) (old new : Worker) (before after : Option MailForm) : Type 0 where
  pub number : new.number ≡ old.number
  pub problem : new.search.problem ≡ old.search.problem
  pub log : LearnsAndShares old.search.problem query budget old.search.log new.search.log new.search.learned before after
  pub turns : new.turns.items ≡ old.turns.items ++ turn_of ticket (length old.search.log) new.search.learned (length new.search.log) ∷ []

-- what the worker of a number answers by a verdict of its search
abbrev pub answer_by : ℕ → Verdict → WorkAnswer
answer_by number (verdict.Model valuation) = answer.Model valuation
answer_by number (verdict.Refuted last) = answer.Refuted number last
answer_by number (verdict.Spent from to) = answer.Spent number from to

-- what an answer of the worker with this number and this record says of the query with a ticket
abbrev pub IsAnswerBy : Problem → Query → ℕ → ℕ → WorkerRecord → ℕ → WorkAnswer → Type 0
IsAnswerBy problem query budget number own ticket (answer.Model valuation) = Meets problem query valuation
IsAnswerBy problem query budget number own ticket (answer.Refuted worker last) = (worker ≡ number) × RefutesByCone problem query own.log last
IsAnswerBy problem query budget number own ticket (answer.Spent worker from to) = (worker ≡ number) × HasTurnSpentOn problem query own ticket budget from to

-- the answer to a ticket is an answer to the query of that place
abbrev pub AnswersOwn : Problem → List Query → ℕ → ℕ → WorkerRecord → Made WorkAnswer → Type 0
AnswersOwn problem queries budget number own answered =
    IsSomeAnd (slice_get queries answered.number) (λ query. IsAnswerBy problem query budget number own answered.number answered.value)

-- every entry of a log passes, in some turn
abbrev pub PassesAll : Problem → List LogEntry → Type 0
PassesAll problem log = (locals : List Kind) × (begins : ℕ) × LogPasses problem locals log begins

-- a worker answered the queries of the tickets that it drew, each in a turn of its own, and took or learned all of its log in
-- these turns, as its mail tells
pub record HasWorked (problem : Problem) (queries : List Query) (budget : ℕ) (drawn : List ℕ) (worker : Worker) (answers : List (Made WorkAnswer)) (mail : Option MailForm) : Type 0 where
  pub searches : worker.search.problem ≡ problem
  pub answered : All (AnswersOwn problem queries budget worker.number (record_of worker)) answers
  pub told : numbers_of answers ≡ drawn
  pub tickets : tickets_of (record_of worker) ≡ drawn
  pub covered : TurnsCover worker.search.log 0 (length worker.search.log) worker.turns.items
  pub passes : PassesAll problem worker.search.log
  pub shares : SharesSoFar problem worker.search.log mail
  pub few : length worker.search.log ≤ length drawn * budget + given_by mail
