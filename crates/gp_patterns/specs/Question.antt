-- The question which instances of properties are possible.
use Rattle.std.specs.Prelude.{ℕ, ◌≡◌, ◌↔◌, Bool, List, [], Option, None, Some, Result, Ok, Err, length, nat_lt}
use Rattle.gp_constraint.specs.declared.fault.BaseFault.{BaseFault}
use Rattle.gp_constraint.specs.declared.fault.BaseFault.TheVariants as no_window
use Rattle.gp_constraint.specs.Base.{base_of}
use Rattle.gp_constraint.specs.Encoded.{base_due}
use Rattle.gp_constraint.specs.Points.{points_of}
use Rattle.gp_constraint.specs.Query.{query_of}
use Rattle.gp_instance.specs.Instances.{due_instances}
use Rattle.gp_property.specs.PropertyForm.{PropertyForm}
use Rattle.gp_report.specs.ReportForm.{ReportForm}
use Rattle.gp_window.specs.declared.schedule.Schedule.{Schedule}
use Rattle.gp_window.specs.RecordingForm.{RecordingForm}
use Rattle.gp_window.specs.WindowForm.{WindowForm}
use Rattle.gp_analysis.specs.declared.question.LeftOut.{LeftOut}
use Rattle.gp_analysis.specs.declared.question.LeftOut.TheVariants as out
use Rattle.gp_analysis.specs.Answered.{IsAnswered as AnswersQuestion}
use Rattle.gp_analysis.specs.Question.{QuestionForm}
use Rattle.gp_patterns.specs.Answered.{IsAnswered, IsShown}

-- a window is left out where it has no constraints, since it is too large by these numbers
abbrev pub left_out_in : Result WindowForm BaseFault → Option LeftOut
left_out_in (Ok encoded) = None
left_out_in (Err (no_window.TooLarge events clauses)) = Some (out.TooLarge (record { events = events; clauses = clauses }))
left_out_in (Err no_window.Memory) = Some (out.TooLarge (record { events = 0; clauses = 0 }))

-- a window has more events than one with constraints may have
abbrev pub is_large : WindowForm → Bool
is_large window = nat_lt 2048 (length (points_of window))

-- each property asks for its instances; no steps are shared from the start, an instance has no answer before, and a feasible
-- schedule that matches it shows it
abbrev pub patterns : List PropertyForm → QuestionForm PropertyForm Schedule
patterns properties = record {
  subjects = properties;
  name = λ (property : PropertyForm). property.name;
  left_out = λ window. left_out_in (base_due window);
  is_large = is_large;
  problem = base_of;
  shared = λ window. [];
  asks = due_instances;
  query = query_of;
  given = λ window property ids. None;
  shows = λ window property ids (schedule : Schedule). IsShown window property ids schedule.events;
}

-- a report answers a recording and its properties exactly where its windows answer this question, with its budget
abbrev pub PatternsAnswered : Type 0
PatternsAnswered = (recording : RecordingForm) (properties : List PropertyForm) (count budget : ℕ) (report : ReportForm)
    → IsAnswered recording properties count budget report ↔ ((report.budget ≡ budget) × AnswersQuestion (patterns properties) recording count budget report.windows)
