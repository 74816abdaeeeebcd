-- How a run ends that was stopped.
use Rattle.std.specs.Prelude.{ℕ, ◌≡◌, ◌⊎◌, List, Option}
use Rattle.gp_predict.specs.declared.outcome.Outcome.{Outcome}
use Rattle.gp_predict.specs.Finished.{IsPut}
use Rattle.gp_predict.specs.Telling.{of_reply}
use Rattle.gp_predict.specs.Told.{Nothing, ends_with}
use Rattle.gp_shards.specs.declared.refusal.ShardRefusal.{ShardRefusal}
use Rattle.gp_shards.specs.declared.stop.ShardStop.{ShardStop}
use Rattle.gp_shards.specs.declared.stop.ShardStop.TheVariants.{Refused, FolderFailed, Memory}
use Rattle.gp_shards.specs.Refusing.{shard_reply}

-- a refusal is told, whole or up to a fault of the sink or of memory
pub record IsRefusalPut (why : ShardRefusal) (outcome : Outcome) (old new : Option (List ℕ)) (before after : ℕ) : Type 0 where
  pub put : IsPut (of_reply (shard_reply why)) outcome old new before after
  pub status : (outcome.status ≡ 3) ⊎ (outcome.status ≡ 5) ⊎ (outcome.status ≡ 6)

-- how a run ends by what stopped it
abbrev pub IsStopped : ShardStop → Outcome → Option (List ℕ) → Option (List ℕ) → ℕ → ℕ → Type 0
IsStopped (Refused why) outcome old new before after = IsRefusalPut why outcome old new before after
IsStopped FolderFailed outcome old new before after = (outcome ≡ ends_with 4 Nothing) × (new ≡ old) × (after ≡ before)
IsStopped Memory outcome old new before after = (outcome ≡ ends_with 6 Nothing) × (new ≡ old) × (after ≡ before)
