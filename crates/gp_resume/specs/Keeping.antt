-- How answers are taken away that do not stand, one instance after another.
use Rattle.std.specs.Prelude.{ℕ, ◌≡◌, List, Option, Some, Contains}
use Rattle.gp_instance.specs.declared.instance.Instance.{Instance}
use Rattle.gp_property.specs.PropertyForm.{PropertyForm}
use Rattle.gp_report.specs.Records.{Answer, WindowRecord}
use Rattle.gp_window.specs.declared.schedule.EventId.{EventId}
use Rattle.gp_resume.specs.Kept.{answer_kept, where_passes}
use Rattle.gp_resume.specs.KeptForm.{IsListedIn}
use Rattle.gp_resume.specs.Standing.{stands}
use Rattle.gp_resume.specs.Table.{answer_at}
use Rattle.gp_resume.specs.TestForm.{TestForm}

-- answers, each with the events of its instance
abbrev pub Told : Type 0
Told = List (List EventId × Answer)

-- an answer to the instance with some events, where it stands
abbrev pub passed : TestForm → PropertyForm → List EventId → Option Answer → Option Answer
passed test property ids answer = where_passes (stands test.shared test.window property ids) answer

-- an answer is none, or stands
abbrev pub Stays : TestForm → PropertyForm → List EventId → Option Answer → Type 0
Stays test property ids answer = passed test property ids answer ≡ answer

-- no answer is taken away that stands
abbrev pub LosesNone : TestForm → PropertyForm → Told → Told → Type 0
LosesNone test property before after = (ids : List EventId) → passed test property ids (answer_at after ids) ≡ passed test property ids (answer_at before ids)

-- the answer to one instance is taken away unless it stands
pub record KeepsOne (test : TestForm) (property : PropertyForm) (ids : List EventId) (before after : Told) : Type 0 where
  pub loses_none : LosesNone test property before after
  pub here : Stays test property ids (answer_at after ids)
  pub others : (other : List EventId) → Stays test property other (answer_at before other) → Stays test property other (answer_at after other)

-- the answers to these instances are taken away unless they stand
pub record KeepsStanding (test : TestForm) (property : PropertyForm) (listed : List Instance) (before after : Told) : Type 0 where
  pub loses_none : LosesNone test property before after
  pub stay : (instance : Instance) → Contains listed instance → Stays test property instance.events (answer_at after instance.events)

-- each instance of the property of this number that is listed has the answer that is kept of an old record
abbrev pub KeepsListed : WindowRecord → TestForm → PropertyForm → ℕ → Told → Type 0
KeepsListed told test property number answers = (ids : List EventId) → IsListedIn test.window property number ids → answer_at answers ids ≡ answer_kept (Some told) test.window property ids
