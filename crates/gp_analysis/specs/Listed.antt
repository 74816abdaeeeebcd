-- What is listed of a window: the asks of each subject with the answers that they have already, and the queries of the others
-- in order.
use Rattle.std.specs.Prelude.{ℕ, ◌+◌, ◌++◌, List, [], ◌∷◌, Option, Some, None, Result, Ok, Err, map}
use Rattle.gp_clause.specs.declared.problem.Query.{Query}
use Rattle.gp_instance.specs.declared.instance.Instance.{Instance}
use Rattle.gp_instance.specs.declared.instance.InstancesFault.{InstancesFault}
use Rattle.gp_report.specs.declared.record.AnswerOf.{AnswerOf}
use Rattle.gp_window.specs.WindowForm.{WindowForm}
use Rattle.gp_analysis.specs.declared.listing.Asked.{Asked}
use Rattle.gp_analysis.specs.Question.{QuestionForm}

module _ {Subject Shown : Type 0} (question : QuestionForm Subject Shown) where
  -- an ask with the answer that it has already
  abbrev pub asked_of : WindowForm → Subject → Instance → Asked Shown
  asked_of window subject ask = record { ask = ask; given = question.given window subject ask.events }

  -- the asks that are listed; nothing where there are too many
  abbrev pub listed_of : WindowForm → Subject → Result (List Instance) InstancesFault → Option (List (Asked Shown))
  listed_of window subject (Ok asks) = Some (map (asked_of window subject) asks)
  listed_of window subject (Err fault) = None

  -- the asks of each of these subjects, the first of which has this number
  abbrev pub listed_from : WindowForm → ℕ → List Subject → List (Option (List (Asked Shown)))
  listed_from window number [] = []
  listed_from window number (subject ∷ subjects) =
      listed_of window subject (question.asks window subject number) ∷ listed_from window (number + 1) subjects

  -- the query of an ask; none where it has an answer already
  abbrev pub query_for : WindowForm → Subject → Instance → Option (AnswerOf Shown) → List Query
  query_for window subject ask None = question.query window subject ask.events ∷ []
  query_for window subject ask (Some given) = []

  -- the queries of these asks of a subject
  abbrev pub queries_each : WindowForm → Subject → List Instance → List Query
  queries_each window subject [] = []
  queries_each window subject (ask ∷ asks) =
      query_for window subject ask (question.given window subject ask.events) ++ queries_each window subject asks

  -- the queries of the asks that are listed; of too many, none
  abbrev pub queries_of : WindowForm → Subject → Result (List Instance) InstancesFault → List Query
  queries_of window subject (Ok asks) = queries_each window subject asks
  queries_of window subject (Err fault) = []

  -- the queries of these subjects, the first of which has this number
  abbrev pub queries_from : WindowForm → ℕ → List Subject → List Query
  queries_from window number [] = []
  queries_from window number (subject ∷ subjects) =
      queries_of window subject (question.asks window subject number) ++ queries_from window (number + 1) subjects
