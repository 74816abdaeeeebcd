-- The question which instances of properties are possible, where an old report may have answered some.
use Rattle.std.specs.Prelude.{ℕ, ◌≡◌, List, Option, Some, slice_get}
use Rattle.std.specs.List.{enumerate_from}
use Rattle.gp_constraint.specs.Base.{base_of}
use Rattle.gp_constraint.specs.Encoded.{base_due}
use Rattle.gp_constraint.specs.Query.{query_of}
use Rattle.gp_instance.specs.Instances.{due_instances}
use Rattle.gp_instance.specs.ListedLaws.{IsListed}
use Rattle.gp_property.specs.PropertyForm.{PropertyForm}
use Rattle.gp_report.specs.ReportForm.{ReportForm}
use Rattle.gp_window.specs.declared.schedule.EventId.{EventId}
use Rattle.gp_window.specs.declared.schedule.Schedule.{Schedule}
use Rattle.gp_window.specs.RecordingForm.{RecordingForm}
use Rattle.gp_window.specs.WindowForm.{WindowForm}
use Rattle.gp_analysis.specs.Question.{QuestionForm}
use Rattle.gp_analysis.specs.Tickets as ticket
use Rattle.gp_patterns.specs.Answered.{IsShown}
use Rattle.gp_patterns.specs.Question.{is_large, left_out_in}
use Rattle.gp_resume.specs.Kept.{kept_answer, kept_shared}
use Rattle.gp_resume.specs.KeptForm.{IsListedIn}

-- each property, with its number, asks for its instances; from the start the steps are shared that are kept of the old report,
-- an instance has the answer that is kept of it, and a feasible schedule that matches it shows it
abbrev pub resumed : List PropertyForm → ReportForm → QuestionForm (ℕ × PropertyForm) Schedule
resumed properties old = record {
  subjects = enumerate_from 0 properties;
  name = λ (subject : ℕ × PropertyForm). subject.1.name;
  left_out = λ window. left_out_in (base_due window);
  is_large = is_large;
  problem = base_of;
  shared = kept_shared old;
  asks = λ window subject number. due_instances window subject.1 subject.0;
  query = λ window subject ids. query_of window subject.1 ids;
  given = λ window subject ids. kept_answer old window subject.1 ids;
  shows = λ window subject ids (schedule : Schedule). IsShown window subject.1 ids schedule.events;
}

-- how many instances that are not kept there are in all windows
abbrev pub asked_total : RecordingForm → List PropertyForm → ReportForm → ℕ
asked_total recording properties old = ticket.asked_total (resumed properties old) recording

-- how many there are, where that times a budget is over 1,000,000
abbrev pub too_much : RecordingForm → List PropertyForm → ReportForm → ℕ → Option ℕ
too_much recording properties old budget = ticket.too_much (resumed properties old) recording budget

-- events are asked of a numbered property: it is one of these, and they are listed among its instances
pub record IsAskOf (properties : List PropertyForm) (window : WindowForm) (subject : ℕ × PropertyForm) (ids : List EventId) : Type 0 where
  pub one_of : slice_get properties subject.0 ≡ Some subject.1
  pub listed : IsListed window subject.1 ids
  pub among : IsListedIn window subject.1 subject.0 ids
