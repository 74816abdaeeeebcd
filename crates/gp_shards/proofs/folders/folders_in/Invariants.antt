use Rattle.std.proofs.Common.{◌≡◌, ◌≤◌, List, [], drop, length}
use Rattle.std.specs.Prelude.{Some}
use Rattle.gp_outside.specs.Folders.{File}
use Rattle.gp_words.specs.Value.{lent_texts}
use Rattle.gp_shards.specs.Folders.{AreFolders}
use Rattle.gp_shards.specs.Merging.{folders_from}
use Rattle.gp_shards.proofs.folders.folders_in.Given as goal

abbrev pub invariant-loop-out : goal.invariant-loop-out
invariant-loop-out g l = record {
  later : g.F.Folder.faults l.initial.folder ≤ g.F.Folder.faults l.folder;
  kept : g.F.Folder.files l.folder ≡ g.F.Folder.files l.initial.folder;
  walk : (files : List File) → g.F.Folder.files l.initial.folder ≡ Some files
      → folders_from files l.recording l.folders (lent_texts (drop l.out-index l.outs)) ≡ folders_from files l.recording [] (lent_texts l.outs);
  parts : AreFolders l.recording l.folders;
  count : length l.folders ≡ l.out-index;
}
