use Rattle.std.proofs.Common.{◌≡◌, ◌≤◌, List, [], drop, map, take}
use Rattle.std.specs.Prelude.{Some}
use Rattle.gp_merge.specs.declared.merging.PartReport.{PartReport}
use Rattle.gp_outside.specs.Folders.{File}
use Rattle.gp_shards.specs.Folders.{Agree}
use Rattle.gp_shards.specs.Merging.{parts_from, windows_in}
use Rattle.gp_shards.specs.PartFolders.{PartFolderForm}
use Rattle.gp_shards.proofs.reports.parts_from.Given as goal

abbrev pub invariant-loop-one : goal.invariant-loop-one
invariant-loop-one g l = record {
  later : g.F.Folder.faults l.initial.folder ≤ g.F.Folder.faults l.folder;
  kept : g.F.Folder.files l.folder ≡ g.F.Folder.files l.initial.folder;
  walk : (files : List File) → g.F.Folder.files l.initial.folder ≡ Some files → parts_from files l.parts (drop l.one-index l.folders) ≡ parts_from files [] l.folders;
  windows : map (λ (one : PartReport). one.part) l.parts ≡ map (λ (folder : PartFolderForm). windows_in folder.shard) (take l.one-index l.folders);
  agree : Agree l.parts;
}
