-- What is kept of a window, by the numbers of its properties.
use Rattle.std.specs.Prelude.{ℕ, ◌≡◌, List, Option, None, Some, Ok, Contains, slice_get}
use Rattle.gp_certificate.specs.declared.step.Step.{Step}
use Rattle.gp_instance.specs.declared.instance.Instance.{Instance}
use Rattle.gp_instance.specs.Instances.{due_instances}
use Rattle.gp_property.specs.PropertyForm.{PropertyForm}
use Rattle.gp_report.specs.Records.{Answer, WindowRecord}
use Rattle.gp_report.specs.ReportForm.{ReportForm}
use Rattle.gp_window.specs.declared.schedule.EventId.{EventId}
use Rattle.gp_window.specs.WindowForm.{WindowForm}
use Rattle.gp_resume.specs.Kept.{answer_kept, shared_kept}
use Rattle.gp_resume.specs.Old.{old_record}
use Rattle.gp_resume.specs.Table.{answer_at}

-- the shared list that is kept, and for each property the answer that is kept to the instance with some events
pub record KeptForm : Type 0 where
  pub shared : List Step
  pub answers : List (List (List EventId × Answer))

-- the answer by what is kept of a property, where it is there
abbrev pub answer_by : Option (List (List EventId × Answer)) → List EventId → Option Answer
answer_by None ids = None
answer_by (Some answers) ids = answer_at answers ids

-- the answer to an instance of the property of this number
abbrev pub answer_to : KeptForm → ℕ → List EventId → Option Answer
answer_to kept number ids = answer_by (slice_get kept.answers number) ids

-- events are listed among the instances of the property of a number
abbrev pub IsListedIn : WindowForm → PropertyForm → ℕ → List EventId → Type 0
IsListedIn window property number ids = (listed : List Instance) × (instance : Instance) × (due_instances window property number ≡ Ok listed) × Contains listed instance × (instance.events ≡ ids)

-- what is kept of an old record: its shared list where that passes, and the answers to all instances that are listed of these
-- properties
pub record IsKeptOf (told : Option WindowRecord) (window : WindowForm) (properties : List PropertyForm) (kept : KeptForm) : Type 0 where
  pub shared : kept.shared ≡ shared_kept told window
  pub answers : (number : ℕ) (property : PropertyForm) → slice_get properties number ≡ Some property
      → (ids : List EventId) → IsListedIn window property number ids → answer_to kept number ids ≡ answer_kept told window property ids

-- the same of an old report
abbrev pub IsKept : ReportForm → WindowForm → List PropertyForm → KeptForm → Type 0
IsKept old window properties kept = IsKeptOf (old_record old window.number) window properties kept
