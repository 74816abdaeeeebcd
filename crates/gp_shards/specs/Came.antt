-- What a stage came to, against what may be told where something is due.
use Rattle.std.specs.Prelude.{◌≡◌, ◌≢◌, false, Result, Ok, Err}
use Rattle.gp_predict.specs.Analysing.{of_report}
use Rattle.gp_predict.specs.declared.listing.Listing.{Listing}
use Rattle.gp_predict.specs.Telling.{of_reply}
use Rattle.gp_predict.specs.Told.{Told}
use Rattle.gp_report.specs.ReportForm.{ReportForm}
use Rattle.gp_shards.specs.declared.merging.AllParts.{AllParts}
use Rattle.gp_shards.specs.declared.stop.ShardStop.{ShardStop}
use Rattle.gp_shards.specs.declared.stop.ShardStop.TheVariants.{Refused, FolderFailed, Memory}
use Rattle.gp_shards.specs.Due.{Expected, Means, Whole}
use Rattle.gp_shards.specs.Refusing.{shard_reply}
use Rattle.gp_shards.specs.Stage.{stops_absent, stops_at_limit}

-- what a stage came to may be told where this is due; a fault of the folder and want of memory say nothing of it
abbrev pub CameTo : {A : Type 0} → (A → Told) → Result A ShardStop → Expected → Type 0
CameTo tell (Ok value) expected = Means expected (tell value)
CameTo tell (Err (Refused why)) expected = Means expected (of_reply (shard_reply why))
CameTo tell (Err FolderFailed) expected = Unit {0}
CameTo tell (Err Memory) expected = Unit {0}

-- the frame of the check of what was merged: it stops at no fault of the folder, and for no file that is absent
pub record IsMergeChecked (listing : Listing) (all : AllParts) (result : Result ReportForm ShardStop) : Type 0 where
  pub came : CameTo of_report result (Whole listing all)
  pub no_fault : result ≢ Err FolderFailed
  pub present : stops_absent result ≡ false
  pub limit : stops_at_limit result ≡ false
