-- What contracts see of a folder that holds a part of a recording.
use Rattle.std.specs.Prelude.{ℕ, List}
use Rattle.gp_shard.specs.declared.shard.Shard.{Shard}

-- the name of a folder, and which part it says that it has
pub record PartFolderForm : Type 0 where
  pub out : List ℕ
  pub shard : Shard
