-- The part that is asked for, out of its windows, its files and their limits.
use Rattle.std.proofs.Common.{◌≡◌, ◌<◌, ℕ, List, Bool, subst, sym}
use Rattle.std.proofs.lemmas.Bool.{lt-ltb}
use Rattle.std.specs.Prelude.{Result, Err, if◌then◌else◌}
use Rattle.gp_files.specs.MadeFileForm.{MadeFileForm}
use Rattle.gp_shard.specs.declared.shard.Shard.{Shard}
use Rattle.gp_window.specs.RecordingForm.{RecordingForm}
use Rattle.gp_shards.specs.Cutting.{cutting_with, part_files, shard_of, within_limits}
use Rattle.gp_shards.specs.declared.cutting.Cutting.{Cutting}
use Rattle.gp_shards.specs.declared.refusal.PartFault.TheVariants.{ManyWindows}
use Rattle.gp_shards.specs.declared.stop.ShardStop.{ShardStop}
use Rattle.gp_shards.specs.Refusing.{part_refusal}
use Rattle.gp_shards.specs.Stage.{IsShardStep}

module _ (r : RecordingForm) (properties out : List ℕ) (part parts : ℕ) (result : Result Cutting ShardStop) where
  -- a part that a manifest can tell, as its files are within their limits or not
  pub asked : (shard : Shard) (files : List MadeFileForm) → shard ≡ shard_of r part parts → shard.count < 4096 → files ≡ part_files r properties shard
      → IsShardStep result (within_limits out shard files) → IsShardStep result (cutting_with r properties out (shard_of r part parts))
  asked shard files is few made step =
      subst (λ (own : Shard). IsShardStep result (cutting_with r properties out own)) is
      (subst (λ (fits : Bool). IsShardStep result (if fits then within_limits out shard (part_files r properties shard) else Err (part_refusal out ManyWindows))) (sym (lt-ltb shard.count 4096 few))
      (subst (λ (own : List MadeFileForm). IsShardStep result (within_limits out shard own)) made step))
