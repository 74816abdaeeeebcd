-- Two reports that answer the same properties of the same recording agree.
use Rattle.std.proofs.Common.{ℕ, sym, ◌∙◌, ◌+◌, List, [], ◌∷◌, Result, Ok, Err}
use Rattle.std.specs.List.{AllZip}
use Rattle.gp_constraint.specs.declared.fault.BaseFault.{BaseFault}
use Rattle.gp_constraint.specs.declared.fault.BaseFault.TheVariants.{TooLarge}
use Rattle.gp_constraint.specs.declared.fault.BaseFault.TheVariants as no_window
use Rattle.gp_constraint.specs.Encoded.{base_due}
use Rattle.gp_instance.specs.declared.instance.Instance.{Instance}
use Rattle.gp_instance.specs.declared.instance.InstancesFault.{InstancesFault}
use Rattle.gp_instance.specs.declared.instance.InstancesFault.TheVariants.{Memory, TooMany}
use Rattle.gp_instance.specs.Instances.{due_instances}
use Rattle.gp_property.specs.PropertyForm.{PropertyForm}
use Rattle.gp_report.specs.Records.{Answer, Entry, PropertyBody, PropertyRecord, WindowBody, WindowRecord}
use Rattle.gp_report.specs.declared.record.AnswerOf.TheVariants.{Found, Impossible, Undecided}
use Rattle.gp_report.specs.declared.record.PropertyBodyOf.TheVariants as body
use Rattle.gp_report.specs.declared.record.WindowBodyOf.TheVariants as told
use Rattle.gp_window.specs.declared.schedule.EventId.{EventId}
use Rattle.gp_window.specs.WindowForm.{WindowForm}
use Rattle.gp_witness.specs.Possible.{IsPossible}
use Rattle.gp_analysis.specs.Answered.{Evidence}
use Rattle.gp_patterns.specs.Answered.{AnswersBody, AnswersEach, AnswersListed, AnswersProperties, AnswersWindow, IsAnswer, IsShown}
use Rattle.gp_patterns.specs.Agreement.{BodiesAgree, Contradict, EntriesAgree, PropertiesAgree, ReportsAgree, WindowsAgree}

-- what is shown is possible
shown : (window : WindowForm) (property : PropertyForm) (ids schedule : List EventId) → IsShown window property ids schedule → IsPossible window property ids
shown window property ids schedule s = (schedule, s.feasible, s.matches)

-- two answers of one instance do not contradict each other
answers_agree : (window : WindowForm) (known more : Evidence) (property : PropertyForm) (ticket later : ℕ) (ids : List EventId) (one other : Answer)
    → IsAnswer window known property ticket ids one → IsAnswer window more property later ids other → Contradict one other → ⊥
answers_agree window known more property ticket later ids (Found schedule) (Found again) a b contra = contra
answers_agree window known more property ticket later ids (Found schedule) (Impossible certificate) a b contra = b.impossible (shown window property ids schedule.events a)
answers_agree window known more property ticket later ids (Found schedule) (Undecided worker from to) a b contra = contra
answers_agree window known more property ticket later ids (Impossible certificate) (Found schedule) a b contra = a.impossible (shown window property ids schedule.events b)
answers_agree window known more property ticket later ids (Impossible certificate) (Impossible again) a b contra = contra
answers_agree window known more property ticket later ids (Impossible certificate) (Undecided worker from to) a b contra = contra
answers_agree window known more property ticket later ids (Undecided worker from to) (Found schedule) a b contra = contra
answers_agree window known more property ticket later ids (Undecided worker from to) (Impossible certificate) a b contra = contra
answers_agree window known more property ticket later ids (Undecided worker from to) (Undecided again begins ends) a b contra = contra

-- nor do those of the instances of a property
entries_agree : (window : WindowForm) (known more : Evidence) (property : PropertyForm) (ticket later : ℕ) (instances : List Instance) (one other : List Entry)
    → AnswersEach window known property ticket instances one → AnswersEach window more property later instances other → AllZip EntriesAgree one other
entries_agree window known more property ticket later [] [] [] a b = b
entries_agree window known more property ticket later [] [] (entry ∷ other) a b = absurd b
entries_agree window known more property ticket later [] (entry ∷ one) other a b = absurd a
entries_agree window known more property ticket later (instance ∷ instances) [] other a b = absurd a
entries_agree window known more property ticket later (instance ∷ instances) (entry ∷ one) [] a b = absurd b
entries_agree window known more property ticket later (instance ∷ instances) (entry ∷ one) (again ∷ other) a b = (
  record {
    events = a.0 ∙ sym b.0;
    answers = answers_agree window known more property ticket later instance.events entry.answer again.answer a.1 b.1;
  },
  entries_agree window known more property (ticket + 1) (later + 1) instances one other a.2 b.2,
)

bodies_agree : (window : WindowForm) (known more : Evidence) (property : PropertyForm) (ticket later : ℕ) (found : Result (List Instance) InstancesFault) (one other : PropertyBody)
    → AnswersListed window known property ticket found one → AnswersListed window more property later found other → BodiesAgree one other
bodies_agree window known more property ticket later found body.TooMany body.TooMany a b = tt
bodies_agree window known more property ticket later (Err TooMany) (body.Entries one) other a b = absurd a
bodies_agree window known more property ticket later (Err TooMany) one (body.Entries other) a b = absurd b
bodies_agree window known more property ticket later (Err Memory) one other a b = absurd a
bodies_agree window known more property ticket later (Ok instances) body.TooMany other a b = absurd a
bodies_agree window known more property ticket later (Ok instances) one body.TooMany a b = absurd b
bodies_agree window known more property ticket later (Ok instances) (body.Entries one) (body.Entries other) a b =
    entries_agree window known more property ticket later instances one other a b

properties_agree : (window : WindowForm) (known more : Evidence) (number ticket later : ℕ) (properties : List PropertyForm) (one other : List PropertyRecord)
    → AnswersProperties window known number ticket properties one → AnswersProperties window more number later properties other → AllZip PropertiesAgree one other
properties_agree window known more number ticket later [] [] [] a b = b
properties_agree window known more number ticket later [] [] (entry ∷ other) a b = absurd b
properties_agree window known more number ticket later [] (entry ∷ one) other a b = absurd a
properties_agree window known more number ticket later (property ∷ properties) [] other a b = absurd a
properties_agree window known more number ticket later (property ∷ properties) (entry ∷ one) [] a b = absurd b
properties_agree window known more number ticket later (property ∷ properties) (entry ∷ one) (again ∷ other) a b = (
  record {
    name = a.0 ∙ sym b.0;
    body = bodies_agree window known more property ticket later (due_instances window property number) entry.body again.body a.1 b.1;
  },
  properties_agree window known more (number + 1) _ _ properties one other a.2 b.2,
)

windows_agree : (window : WindowForm) (properties : List PropertyForm) (count other_count : ℕ) (known more : Evidence) (due : Result WindowForm BaseFault) (one other : WindowBody)
    → AnswersBody window properties count known due one → AnswersBody window properties other_count more due other → WindowsAgree one other
windows_agree window properties count other_count known more (Err (TooLarge events clauses)) (told.TooLarge e k) (told.TooLarge f l) a b = (a.0 ∙ sym b.0, a.1 ∙ sym b.1)
windows_agree window properties count other_count known more (Ok encoded) (told.Answers one) (told.Answers other) a b =
    properties_agree window known more 0 0 0 properties one other a.1 b.1
windows_agree window properties count other_count known more (Ok encoded) (told.TooLarge e k) other a b = absurd a
windows_agree window properties count other_count known more (Ok encoded) one (told.TooLarge e k) a b = absurd b
windows_agree window properties count other_count known more (Err (TooLarge events clauses)) (told.Answers one) other a b = absurd a
windows_agree window properties count other_count known more (Err (TooLarge events clauses)) one (told.Answers other) a b = absurd b
windows_agree window properties count other_count known more (Err no_window.Memory) one other a b = absurd a

all_agree : (properties : List PropertyForm) (count more budget larger : ℕ) (windows : List WindowForm) (one other : List WindowRecord)
    → AllZip (AnswersWindow properties count budget) windows one → AllZip (AnswersWindow properties more larger) windows other
    → AllZip (λ (told : WindowRecord) (again : WindowRecord). WindowsAgree told.body again.body) one other
all_agree properties count more budget larger [] [] [] a b = b
all_agree properties count more budget larger [] [] (record_other ∷ other) a b = absurd b
all_agree properties count more budget larger [] (record_one ∷ one) other a b = absurd a
all_agree properties count more budget larger (window ∷ windows) [] other a b = absurd a
all_agree properties count more budget larger (window ∷ windows) (x ∷ one) [] a b = absurd b
all_agree properties count more budget larger (window ∷ windows) (x ∷ one) (y ∷ other) a b = (
  windows_agree window properties count more _ _ (base_due window) x.body y.body a.0 b.0,
  all_agree properties count more budget larger windows one other a.1 b.1,
)

pub reports_agree_lem : ReportsAgree
reports_agree_lem recording properties count more budget larger one other a b = all_agree properties count more budget larger _ one.windows other.windows a.windows b.windows
