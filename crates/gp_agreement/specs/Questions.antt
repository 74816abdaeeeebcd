-- Which of the questions are alike.
use Rattle.std.specs.Prelude.{List}
use Rattle.gp_property.specs.PropertyForm.{PropertyForm}
use Rattle.gp_report.specs.ReportForm.{ReportForm}
use Rattle.gp_patterns.specs.Question.{patterns}
use Rattle.gp_resumed.specs.Question.{resumed}
use Rattle.gp_deadlocks.specs.Question.{deadlocks}
use Rattle.gp_notified.specs.Question.{notified}
use Rattle.gp_agreement.specs.Alike.{AreAlike}

-- each question is alike to itself, and of the same properties the one without an old report to that with any, and those with any
-- two
pub record QuestionsAreAlike : Type 0 where
  pub analysed : (properties : List PropertyForm) → AreAlike (patterns properties) (patterns properties)
  pub kept : (properties : List PropertyForm) (old : ReportForm) → AreAlike (patterns properties) (resumed properties old)
  pub kept_again : (properties : List PropertyForm) (old older : ReportForm) → AreAlike (resumed properties old) (resumed properties older)
  pub stuck : AreAlike deadlocks deadlocks
  pub signalled : (properties : List PropertyForm) → AreAlike (notified properties) (notified properties)
