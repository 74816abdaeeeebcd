-- What a task came to, and how that was put to a sink.
use Rattle.std.specs.Prelude.{ℕ, ◌≡◌, ◌≤◌, ◌⊎◌, List, Option, Result, Ok, Err}
use Rattle.gp_outside.specs.Faults.{Rose}
use Rattle.gp_outside.specs.Sinks.{Appends, AppendsFront}
use Rattle.gp_predict.specs.declared.outcome.Outcome.{Outcome}
use Rattle.gp_predict.specs.declared.refusal.Refusal.{Refusal}
use Rattle.gp_predict.specs.declared.reply.Reply.{Reply}
use Rattle.gp_predict.specs.declared.stop.Stop.{Stop}
use Rattle.gp_predict.specs.declared.stop.Stop.TheVariants as stop
use Rattle.gp_predict.specs.Tasks.{Expected, Means, Text}
use Rattle.gp_predict.specs.Telling.{of_reply}
use Rattle.gp_predict.specs.Refused.{reply_of}
use Rattle.gp_predict.specs.Told.{IsDone, Nothing, Told, ends, ends_with}

-- what a task came to: something to tell, a refusal, or why there is nothing
pub data Came : Type 0 where
  By : Told → Came
  Refused : Refusal → Came
  Failed : Came
  Wanting : Came

-- what a task came to whose result tells this
abbrev pub told_by : {T : Type 0} → (T → Told) → Result T Stop → Came
told_by tells (Ok whole) = By (tells whole)
told_by tells (Err (stop.Refused why)) = Refused why
told_by tells (Err stop.FolderFailed) = Failed
told_by tells (Err stop.Memory) = Wanting

-- what a task came to is what is due, of which this may be told and of which a text is one, or says nothing of it
abbrev pub CameToBy : {E : Type 0} → (E → Told → Type 0) → (Reply → E) → Came → E → Type 0
CameToBy means text (By told) expected = means expected told
CameToBy means text (Refused why) expected = expected ≡ text (reply_of why)
CameToBy means text Failed expected = Unit {0}
CameToBy means text Wanting expected = Unit {0}

-- the same of a task
abbrev pub CameTo : Came → Expected → Type 0
CameTo = CameToBy Means Text

-- what was told whole, or up to a fault of the sink or of memory
pub record IsPut (told : Told) (outcome : Outcome) (old new : Option (List ℕ)) (before after : ℕ) : Type 0 where
  pub later : before ≤ after
  pub given : IsDone outcome.status → (outcome ≡ ends told) × Appends old new told.text
  pub begun : (outcome.status ≡ 5) ⊎ (outcome.status ≡ 6) → (outcome ≡ ends_with outcome.status told.kept) × AppendsFront old new told.text
  pub fault : outcome.status ≡ 5 → Rose before after
  pub range : IsDone outcome.status ⊎ (outcome.status ≡ 5) ⊎ (outcome.status ≡ 6)

-- how a run ends by what its task came to; the result of a task has status 0 or 1
abbrev pub IsFinished : Came → Outcome → Option (List ℕ) → Option (List ℕ) → ℕ → ℕ → Type 0
IsFinished (By told) outcome old new before after = (told.status ≤ 1) × IsPut told outcome old new before after
IsFinished (Refused why) outcome old new before after = IsPut (of_reply (reply_of why)) outcome old new before after
IsFinished Failed outcome old new before after = (outcome ≡ ends_with 4 Nothing) × (new ≡ old) × (after ≡ before)
IsFinished Wanting outcome old new before after = (outcome ≡ ends_with 6 Nothing) × (new ≡ old) × (after ≡ before)
