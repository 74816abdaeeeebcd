use Rattle.std.proofs.Common.{◌≡◌, drop}
use Rattle.std.specs.Prelude.{find}
use Rattle.gp_shards.specs.Merging.{is_of_part}
use Rattle.gp_shards.proofs.ordering.folder_of.Given as goal

abbrev pub invariant-loop-folder : goal.invariant-loop-folder
invariant-loop-folder l = find (is_of_part l.part) (drop l.folder-index l.folders) ≡ find (is_of_part l.part) l.folders
