-- The laws of reports of properties follow from those of their question.
use Rattle.std.proofs.Common.{ℕ, List, [], ◌∷◌, Result, Ok, Err}
use Rattle.std.specs.List.{AllZip}
use Rattle.gp_constraint.specs.declared.fault.BaseFault.{BaseFault}
use Rattle.gp_constraint.specs.declared.fault.BaseFault.TheVariants as no_window
use Rattle.gp_constraint.specs.Encoded.{base_due}
use Rattle.gp_property.specs.PropertyForm.{PropertyForm}
use Rattle.gp_report.specs.Records.{Entry, PropertyBody, PropertyRecord, WindowBody, WindowRecord}
use Rattle.gp_report.specs.declared.record.PropertyBodyOf.TheVariants as body
use Rattle.gp_report.specs.declared.record.WindowBodyOf.TheVariants as told
use Rattle.gp_window.specs.WindowForm.{WindowForm}
use Rattle.gp_window.specs.Windows.{all_windows}
use Rattle.gp_analysis.specs.Answered.{Evidence}
use Rattle.gp_patterns.specs.Agreement as report
use Rattle.gp_patterns.specs.Answered.{AnswersBody, AnswersWindow}
use Rattle.gp_patterns.specs.Enough as decided
use Rattle.gp_patterns.specs.Question.{left_out_in, patterns}
use Rattle.gp_agreement.specs.Agreement.{Agree, BodiesAgree, EntriesAgree, PropertiesAgree, WindowsAgree}
use Rattle.gp_agreement.specs.Enough.{DecidesBody}
use Rattle.gp_agreement.specs.Patterns.{PatternsFollow}
use Rattle.gp_agreement.specs.Tasks.{TasksAgree, TasksDecide}

-- entries agree exactly where they do
entries_there : (one other : List Entry) → AllZip report.EntriesAgree one other → AllZip EntriesAgree one other
entries_there [] [] are = are
entries_there [] (entry ∷ other) are = are
entries_there (entry ∷ one) [] are = are
entries_there (entry ∷ one) (again ∷ other) are = (record { events = are.0.events; answers = are.0.answers }, entries_there one other are.1)

entries_back : (one other : List Entry) → AllZip EntriesAgree one other → AllZip report.EntriesAgree one other
entries_back [] [] are = are
entries_back [] (entry ∷ other) are = are
entries_back (entry ∷ one) [] are = are
entries_back (entry ∷ one) (again ∷ other) are = (record { events = are.0.events; answers = are.0.answers }, entries_back one other are.1)

body_there : (one other : PropertyBody) → report.BodiesAgree one other → BodiesAgree one other
body_there body.TooMany body.TooMany are = are
body_there body.TooMany (body.Entries other) are = are
body_there (body.Entries one) body.TooMany are = are
body_there (body.Entries one) (body.Entries other) are = entries_there one other are

body_back : (one other : PropertyBody) → BodiesAgree one other → report.BodiesAgree one other
body_back body.TooMany body.TooMany are = are
body_back body.TooMany (body.Entries other) are = are
body_back (body.Entries one) body.TooMany are = are
body_back (body.Entries one) (body.Entries other) are = entries_back one other are

properties_there : (one other : List PropertyRecord) → AllZip report.PropertiesAgree one other → AllZip PropertiesAgree one other
properties_there [] [] are = are
properties_there [] (again ∷ other) are = are
properties_there (own ∷ one) [] are = are
properties_there (own ∷ one) (again ∷ other) are =
    (record { name = are.0.name; body = body_there own.body again.body are.0.body }, properties_there one other are.1)

properties_back : (one other : List PropertyRecord) → AllZip PropertiesAgree one other → AllZip report.PropertiesAgree one other
properties_back [] [] are = are
properties_back [] (again ∷ other) are = are
properties_back (own ∷ one) [] are = are
properties_back (own ∷ one) (again ∷ other) are =
    (record { name = are.0.name; body = body_back own.body again.body are.0.body }, properties_back one other are.1)

window_there : (one other : WindowBody) → report.WindowsAgree one other → WindowsAgree one other
window_there (told.TooLarge e k) (told.TooLarge f l) are = are
window_there (told.TooLarge e k) (told.Answers other) are = are
window_there (told.Answers one) (told.TooLarge f l) are = are
window_there (told.Answers one) (told.Answers other) are = properties_there one other are

window_back : (one other : WindowBody) → WindowsAgree one other → report.WindowsAgree one other
window_back (told.TooLarge e k) (told.TooLarge f l) are = are
window_back (told.TooLarge e k) (told.Answers other) are = are
window_back (told.Answers one) (told.TooLarge f l) are = are
window_back (told.Answers one) (told.Answers other) are = properties_back one other are

windows_there : (one other : List WindowRecord) → AllZip (λ (x : WindowRecord) (y : WindowRecord). report.WindowsAgree x.body y.body) one other → Agree one other
windows_there [] [] are = are
windows_there [] (y ∷ other) are = are
windows_there (x ∷ one) [] are = are
windows_there (x ∷ one) (y ∷ other) are = (window_there x.body y.body are.0, windows_there one other are.1)

windows_back : (one other : List WindowRecord) → Agree one other → AllZip (λ (x : WindowRecord) (y : WindowRecord). report.WindowsAgree x.body y.body) one other
windows_back [] [] are = are
windows_back [] (y ∷ other) are = are
windows_back (x ∷ one) [] are = are
windows_back (x ∷ one) (y ∷ other) are = (window_back x.body y.body are.0, windows_back one other are.1)

-- what is decided in a window by its question is decided in it
body_decided : (window : WindowForm) (properties : List PropertyForm) (count : ℕ) (known : Evidence) (due : Result WindowForm BaseFault) (own : WindowBody)
    → AnswersBody window properties count known due own → DecidesBody (patterns properties) known.budget window (left_out_in due) own → decided.DecidesBody properties known.budget window own
body_decided window properties count known due (told.TooLarge events clauses) is decides = tt
body_decided window properties count known (Ok encoded) (told.Answers records) is decides = decides
body_decided window properties count known (Err (no_window.TooLarge events clauses)) (told.Answers records) is decides = absurd is
body_decided window properties count known (Err no_window.Memory) (told.Answers records) is decides = absurd is

windows_decided : (properties : List PropertyForm) (count budget : ℕ) (windows : List WindowForm) (records : List WindowRecord) → AllZip (AnswersWindow properties count budget) windows records
    → AllZip (λ (window : WindowForm) (own : WindowRecord). DecidesBody (patterns properties) budget window (left_out_in (base_due window)) own.body) windows records
    → AllZip (λ (window : WindowForm) (own : WindowRecord). decided.DecidesBody properties budget window own.body) windows records
windows_decided properties count budget [] [] is decides = decides
windows_decided properties count budget [] (own ∷ records) is decides = absurd is
windows_decided properties count budget (window ∷ windows) [] is decides = absurd is
windows_decided properties count budget (window ∷ windows) (own ∷ records) is decides = (
  body_decided window properties count (record { budget = budget; shared = own.shared; workers = own.records }) (base_due window) own.body is.0 decides.0,
  windows_decided properties count budget windows records is.1 decides.1,
)

pub patterns_followed : TasksAgree → TasksDecide → PatternsFollow
patterns_followed agree decide = record {
  alike = λ one other. (windows_there one.windows other.windows, windows_back one.windows other.windows);
  decided = λ recording properties count budget own is decides. windows_decided properties count budget (all_windows recording) own.windows is.windows decides;
  agree = λ recording properties count more budget larger one other a b.
      windows_back one.windows other.windows (agree.analysed recording properties count more budget larger one other a b);
  decides = λ recording properties count budget own is.
      windows_decided properties count budget (all_windows recording) own.windows is.windows (decide.analysed recording properties count budget own is);
}
