-- The sources so far, and then those of the names that are left, are all.
use Rattle.std.proofs.Common.{◌≡◌, ◌≤◌, ◌++◌, List, drop, map}
use Rattle.std.specs.Prelude.{Some, option_map}
use Rattle.gp_outside.specs.Folders.{File}
use Rattle.gp_beside.specs.Sources.{source_at}
use Rattle.gp_beside.proofs.sources.sources_at.Given as goal

abbrev pub invariant-loop-name : goal.invariant-loop-name
invariant-loop-name g l =
    (g.F.Folder.faults l.initial.folder ≤ g.F.Folder.faults l.folder)
    × (g.F.Folder.files l.folder ≡ g.F.Folder.files l.initial.folder)
    × ((files : List File) → g.F.Folder.files l.initial.folder ≡ Some files
    → l.sources ++ map (source_at files (option_map (λ at. at.now) l.directory)) (drop l.name-index l.names)
    ≡ map (source_at files (option_map (λ at. at.now) l.directory)) l.names)
