-- The question which cycles of waiting threads are stuck.
use Rattle.std.specs.Prelude.{ℕ, ◌≡◌, List, [], ◌∷◌, None, codes}
use Rattle.gp_constraint.specs.Base.{base_of}
use Rattle.gp_constraint.specs.Encoded.{base_due}
use Rattle.gp_report.specs.ReportForm.{ReportForm}
use Rattle.gp_window.specs.declared.schedule.Schedule.{Schedule}
use Rattle.gp_window.specs.RecordingForm.{RecordingForm}
use Rattle.gp_analysis.specs.Answered.{IsAnswered as AnswersQuestion}
use Rattle.gp_analysis.specs.Question.{QuestionForm}
use Rattle.gp_patterns.specs.Question.{is_large, left_out_in}
use Rattle.gp_stuck.specs.Cycles.{due_cycles}
use Rattle.gp_stuck.specs.Stuck.{EndsStuck}
use Rattle.gp_stuck.specs.StuckQuery.{stuck_query_of}

-- the one subject, named `deadlock`, asks for the cycles; a feasible schedule after which its events block one another shows one
abbrev pub deadlocks : QuestionForm (List ℕ) Schedule
deadlocks = record {
  subjects = codes "deadlock" ∷ [];
  name = λ (subject : List ℕ). subject;
  left_out = λ window. left_out_in (base_due window);
  is_large = is_large;
  problem = base_of;
  shared = λ window. [];
  asks = λ window subject number. due_cycles window;
  query = λ window subject ids. stuck_query_of window ids;
  given = λ window subject ids. None;
  shows = λ window subject ids (schedule : Schedule). EndsStuck window ids schedule.events;
}

-- a report answers the deadlocks of a recording, for so many workers and this budget
pub record IsAnswered (recording : RecordingForm) (count budget : ℕ) (report : ReportForm) : Type 0 where
  pub same_budget : report.budget ≡ budget
  pub windows : AnswersQuestion deadlocks recording count budget report.windows
