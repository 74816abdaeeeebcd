-- What the top call says of its end and of what was written, against what is due.
use Rattle.std.specs.Prelude.{ℕ, ◌≡◌, ◌≤◌, ◌⊎◌, ◌++◌, List, Option, None, codes}
use Rattle.gp_outside.specs.Faults.{Rose}
use Rattle.gp_outside.specs.Folders.{File}
use Rattle.gp_outside.specs.Sinks.{Appends}
use Rattle.gp_predict.specs.declared.outcome.Outcome.{Outcome}
use Rattle.gp_predict.specs.declared.reply.Reply.{Reply}
use Rattle.gp_predict.specs.Refusal.{one_line}
use Rattle.gp_predict.specs.Run.{IsBegunBy, IsGivenBy, IsNothing, WhereDue}
use Rattle.gp_predict.specs.Telling.{text_of}
use Rattle.gp_predict.specs.Told.{IsDone}
use Rattle.gp_shards.specs.declared.refusal.ShardRefusal.{ShardRefusal}
use Rattle.gp_shards.specs.Due.{Expected, Means}
use Rattle.gp_shards.specs.Refusing.{shard_reply}

-- the file of this path is absent
abbrev pub absent_at : List ℕ → Reply
absent_at path = one_line 3 (codes "refused " ++ path ++ codes " absent")

-- a refusal was written whole; where the files are not told, that a file is absent has its cause
pub record IsShardRefused (files : Option (List File)) (Cause : Type 0) (old new : Option (List ℕ)) : Type 0 where
  pub refusal : ShardRefusal
  pub written : Appends old new (text_of (shard_reply refusal))
  pub absent : (path : List ℕ) → text_of (shard_reply refusal) ≡ text_of (absent_at path) → files ≡ None → Cause

-- what a run did with its folder and its sink, against what is due
pub record IsShardRun (due : Option Expected) (files : Option (List File)) (outcome : Outcome) (old new : Option (List ℕ)) (before after folder_before folder_after : ℕ) : Type 0 where
  pub given : IsDone outcome.status → WhereDue due (IsGivenBy Means outcome old new)
  pub complete : ¬ (Rose folder_before folder_after) → ¬ (Rose before after) → IsDone outcome.status ⊎ (outcome.status ≡ 6)
  pub read_fault : outcome.status ≡ 4 → Rose folder_before folder_after × IsNothing outcome old new
  pub write_fault : outcome.status ≡ 5 → Rose before after × WhereDue due (IsBegunBy Means outcome old new)
  pub memory : outcome.status ≡ 6 → IsNothing outcome old new ⊎ WhereDue due (IsBegunBy Means outcome old new)
  pub refused : outcome.status ≡ 3 → IsShardRefused files (Rose folder_before folder_after) old new
  pub range : outcome.status ≤ 6
