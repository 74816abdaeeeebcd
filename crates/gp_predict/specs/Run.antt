-- What the top call says of its end and of what was written, against what is due: no case of a task.
use Rattle.std.specs.Prelude.{ℕ, ◌≡◌, ◌≤◌, ◌⊎◌, List, Option, Some, None, codes}
use Rattle.gp_outside.specs.Faults.{Rose}
use Rattle.gp_outside.specs.Folders.{File}
use Rattle.gp_outside.specs.Sinks.{Appends, AppendsFront}
use Rattle.gp_window.specs.declared.file_name.FileName.{FileName}
use Rattle.gp_predict.specs.declared.outcome.Outcome.{Outcome}
use Rattle.gp_predict.specs.declared.refusal.Refusal.{Refusal}
use Rattle.gp_predict.specs.Tasks.{Expected, Means}
use Rattle.gp_predict.specs.Telling.{text_of}
use Rattle.gp_predict.specs.Refusal.{refused_as}
use Rattle.gp_predict.specs.Refused.{reply_of}
use Rattle.gp_predict.specs.Told.{IsDone, Nothing, Told, ends, ends_with}

-- where something is due, it meets the fact
abbrev pub WhereDue : {E : Type 0} → Option E → (E → Type 0) → Type 0
WhereDue {E} due P = (expected : E) → due ≡ Some expected → P expected

-- what is due was told, the sink got its whole text, and the run ends with it
abbrev pub IsGivenBy : {E : Type 0} → (E → Told → Type 0) → Outcome → Option (List ℕ) → Option (List ℕ) → E → Type 0
IsGivenBy means outcome old new expected = (told : Told) × means expected told × (outcome ≡ ends told) × Appends old new told.text

-- what is due was reached, the sink got a prefix of its text, and what is kept of it is kept
abbrev pub IsBegunBy : {E : Type 0} → (E → Told → Type 0) → Outcome → Option (List ℕ) → Option (List ℕ) → E → Type 0
IsBegunBy means outcome old new expected =
    (told : Told) × means expected told × (outcome ≡ ends_with outcome.status told.kept) × AppendsFront old new told.text

-- nothing was written, and nothing is kept
abbrev pub IsNothing : Outcome → Option (List ℕ) → Option (List ℕ) → Type 0
IsNothing outcome old new = (outcome ≡ ends_with outcome.status Nothing) × (new ≡ old)

-- a refusal of this status was written whole, and nothing is kept; where the files are not told, `refused FILE absent` has its
-- cause
pub record IsRefused (outcome : Outcome) (files : Option (List File)) (Cause : Type 0) (old new : Option (List ℕ)) : Type 0 where
  pub refusal : Refusal
  pub status : (reply_of refusal).status ≡ 3
  pub nothing : outcome ≡ ends_with 3 Nothing
  pub written : Appends old new (text_of (reply_of refusal))
  pub absent : (name : FileName) → text_of (reply_of refusal) ≡ text_of (refused_as name (codes "absent")) → files ≡ None → Cause

-- what a run did with its folder and its sink, against what is due, of which this may be told
pub record IsRunBy {E : Type 0} (means : E → Told → Type 0) (due : Option E) (files : Option (List File)) (outcome : Outcome) (old new : Option (List ℕ)) (before after folder_before folder_after : ℕ) : Type 0 where
  pub given : IsDone outcome.status → WhereDue due (IsGivenBy means outcome old new)
  pub complete : ¬ (Rose folder_before folder_after) → ¬ (Rose before after) → IsDone outcome.status ⊎ (outcome.status ≡ 6)
  pub read_fault : outcome.status ≡ 4 → Rose folder_before folder_after × IsNothing outcome old new
  pub write_fault : outcome.status ≡ 5 → Rose before after × WhereDue due (IsBegunBy means outcome old new)
  pub memory : outcome.status ≡ 6 → IsNothing outcome old new ⊎ WhereDue due (IsBegunBy means outcome old new)
  pub refused : outcome.status ≡ 3 → IsRefused outcome files (Rose folder_before folder_after) old new
  pub range : outcome.status ≤ 7

-- the same of a task
abbrev pub IsGiven : Outcome → Option (List ℕ) → Option (List ℕ) → Expected → Type 0
IsGiven = IsGivenBy Means

abbrev pub IsBegun : Outcome → Option (List ℕ) → Option (List ℕ) → Expected → Type 0
IsBegun = IsBegunBy Means

abbrev pub IsRun : Option Expected → Option (List File) → Outcome → Option (List ℕ) → Option (List ℕ) → ℕ → ℕ → ℕ → ℕ → Type 0
IsRun = IsRunBy Means
