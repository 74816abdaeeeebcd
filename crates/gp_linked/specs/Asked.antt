-- What one worker says that is asked alone whether a problem has an answer at all.
use Rattle.std.specs.Prelude.{ℕ, ◌≡◌, [], ◌∷◌}
use Rattle.gp_clause.specs.declared.problem.Problem.{Problem}
use Rattle.gp_constraint.specs.Extended.{nothing_asked}
use Rattle.gp_workers.specs.Mail.{taken_entries}
use Rattle.gp_workers.specs.Record.{EachOnce, IsWorkerRecord}
use Rattle.gp_workers.specs.Work.{IsAnswerTo}
use Rattle.gp_linked.specs.declared.asking.Asked.{Asked}

-- the answer of one worker, and its record, which has no other turn
pub record IsAsked (problem : Problem) (budget : ℕ) (asked : Asked) : Type 0 where
  pub answers : IsAnswerTo problem nothing_asked budget (asked.own ∷ []) 0 asked.answer
  pub worked : IsWorkerRecord problem asked.own
  pub once : EachOnce 1 (asked.own ∷ [])
  pub alone : taken_entries asked.own.log ≡ []
