-- An instance of a report, with all that it is told from.
use Rattle.std.specs.Prelude.{ℕ, List}
use Rattle.gp_certificate.specs.declared.step.Step.{Step}
use Rattle.gp_property.specs.PropertyForm.{PropertyForm}
use Rattle.gp_report.specs.Records.{Entry}
use Rattle.gp_window.specs.WindowForm.{WindowForm}
use Rattle.gp_view.specs.declared.answered.Answered.{Answered}

-- an instance: its window, the steps that the certificates of this window share, its property, its number among the instances of
-- this property, and what the report tells of it
pub record AnsweredForm : Type 0 where
  pub window : WindowForm
  pub shared : List Step
  pub property : PropertyForm
  pub number : ℕ
  pub entry : Entry

-- what contracts see of the code's own type
abbrev pub form_of : Answered → AnsweredForm
form_of answered = record {
  window = answered.encoded.now;
  shared = answered.shared.now;
  property = answered.property.now;
  number = answered.number;
  entry = answered.entry.now;
}
