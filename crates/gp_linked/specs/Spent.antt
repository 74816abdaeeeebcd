-- What the log of one worker says that is asked alone and spends its budget.
use Rattle.std.specs.Prelude.{ℕ, ◌≡◌, List, [], ◌∷◌, length}
use Rattle.gp_clause.specs.declared.problem.Problem.{Problem}
use Rattle.gp_constraint.specs.Extended.{nothing_asked}
use Rattle.gp_derivation.specs.declared.log.LogEntry.{LogEntry}
use Rattle.gp_derivation.specs.declared.record.Turn.{Turn}
use Rattle.gp_derivation.specs.Spent.{IsSpentOn}
use Rattle.gp_workers.specs.Mail.{taken_entries}
use Rattle.gp_workers.specs.Record.{TurnsCover}

-- a log is that of a worker whose one turn, with ticket 0, was spent on the entries from one number to another; the turn covers
-- the log, and nothing was taken from others
pub record IsSpentAlone (problem : Problem) (budget : ℕ) (log : List LogEntry) (from to : ℕ) : Type 0 where
  pub turn : Turn
  pub ticket : turn.ticket ≡ 0
  pub covers : TurnsCover log 0 (length log) (turn ∷ [])
  pub alone : taken_entries log ≡ []
  pub spent : IsSpentOn problem nothing_asked log budget turn from to
