-- What a search answers.
use Rattle.std.specs.Prelude.{◌≡◌, ℕ, ◌+◌, ◌*◌, ◌^◌, ◌<◌, ◌≤◌, Option, List, ◌++◌, length, All}
use Rattle.std.specs.List.{sum_by}
use Rattle.gp_clause.specs.declared.problem.Problem.{Problem}
use Rattle.gp_clause.specs.declared.problem.Query.{Query}
use Rattle.gp_clause.specs.Valuation.{Meets}
use Rattle.gp_derivation.specs.declared.log.LogEntry.{LogEntry}
use Rattle.gp_derivation.specs.declared.record.Turn.{Turn}
use Rattle.gp_derivation.specs.Cones.{RefutesByCone}
use Rattle.gp_derivation.specs.Log.{IsLearned, IsTaken, LogPasses}
use Rattle.gp_derivation.specs.Numbering.{size_of}
use Rattle.gp_derivation.specs.Spent.{IsSpentOn}
use Rattle.gp_search.specs.declared.verdict.Verdict.{Verdict}
use Rattle.gp_search.specs.declared.verdict.Verdict.TheVariants.{Model, Refuted, Spent}
use Rattle.gp_search.specs.Mail.{MailForm, SharesWith}

-- what contracts see of a search: its problem, the entries that it has logged, and the place of the log from which its last
-- turn learned
pub record SearchForm : Type 0 where
  pub problem : Problem
  pub log : List LogEntry
  pub learned : ℕ

-- the base clauses and the entries that may be logged have numbers below 2^32, with much to spare
abbrev pub HasRoom : SearchForm → ℕ → Type 0
HasRoom search budget = length search.problem.clauses + 64 * (length search.log + 256 + budget) < 2 ^ 32

-- a log grew in a turn at a query: what was added at its end was taken first and then learned, and every entry passes
pub record Grows (problem : Problem) (query : Query) (old new : List LogEntry) : Type 0 where
  pub taken : List LogEntry
  pub added : List LogEntry
  pub longer : new ≡ old ++ taken ++ added
  pub all_taken : All (λ (entry : LogEntry). IsTaken entry.origin) taken
  pub learned : All (λ (entry : LogEntry). IsLearned entry.origin) added
  pub passes : LogPasses problem query.locals new (length old)

-- the log grew by at most 256 taken entries, and by as many learned ones as the budget at most, which stand from a place on;
-- and behind all steps that its entries stand for there is a number for one more
pub record Learns (problem : Problem) (query : Query) (budget : ℕ) (old new : List LogEntry) (from : ℕ) : Type 0 where
  pub grows : Grows problem query old new
  pub place : from ≡ length old + length grows.taken
  pub few_taken : length grows.taken ≤ 256
  pub few : length grows.added ≤ budget
  pub numbered : length problem.clauses + sum_by size_of new + 1 < 2 ^ 32

-- the log grew so, and what the turn took and learned is what the mail told before and after it
pub record LearnsAndShares (problem : Problem) (query : Query) (budget : ℕ) (old new : List LogEntry) (from : ℕ) (before after : Option MailForm) : Type 0 where
  pub learns : Learns problem query budget old new from
  pub shares : SharesWith problem old learns.grows.taken learns.grows.added before after

-- the turn that began at one place of a log, and learned the entries from another one to a third
abbrev pub turn_of : ℕ → ℕ → ℕ → ℕ → Turn
turn_of ticket begins from to = record { ticket = ticket; begins = begins; learned = from; ends = to }

-- the budget was spent: the entries from one place to the other, which are those that were learned, are as many
pub record IsUsedUp (problem : Problem) (query : Query) (budget : ℕ) (log : List LogEntry) (begins learned from to : ℕ) : Type 0 where
  pub from_learned : from ≡ learned
  pub to_end : to ≡ length log
  pub counted : to ≡ from + budget
  pub spent : (ticket : ℕ) → IsSpentOn problem query log budget (turn_of ticket begins from to) from to

-- what each verdict says of the problem, the query, and the log, in which the turn began at one place and learned from
-- another one on
abbrev pub IsDue : Problem → Query → ℕ → List LogEntry → ℕ → ℕ → Verdict → Type 0
IsDue problem query budget log begins learned (Model valuation) = Meets problem query valuation
IsDue problem query budget log begins learned (Refuted last) = RefutesByCone problem query log last
IsDue problem query budget log begins learned (Spent from to) = IsUsedUp problem query budget log begins learned from to

-- a verdict is a model or a refutation
abbrev pub IsConclusive : Verdict → Type 0
IsConclusive (Model valuation) = Unit {0}
IsConclusive (Refuted last) = Unit {0}
IsConclusive (Spent from to) = ⊥

-- a verdict is conclusive where the budget is 3 to the number of variables or more
abbrev pub ConcludesInTime : Problem → Query → ℕ → Verdict → Type 0
ConcludesInTime problem query budget verdict = 3 ^ (length problem.kinds + length query.locals) ≤ budget → IsConclusive verdict
