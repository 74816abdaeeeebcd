use Rattle.std.proofs.Common.{◌≡◌, ◌+◌, ◌-◌, ◌≤◌, List, length, Some}
use Rattle.std.specs.Prelude.{All}
use Rattle.gp_outside.specs.Folders.{File}
use Rattle.gp_window.specs.Contents.{contents_from}
use Rattle.gp_base.specs.Results.{with_prefix}
use Rattle.gp_window.proofs.content.contents_of.Given as goal

abbrev pub invariant-loop-before : goal.invariant-loop-before
invariant-loop-before g l =
    (g.F.Folder.faults l.initial.folder ≤ g.F.Folder.faults l.folder)
    × (g.F.Folder.files l.folder ≡ g.F.Folder.files l.initial.folder)
    × (length l.contents ≡ l.before)
    × All (λ bytes. length bytes ≤ 2097152) l.contents
    × ((files : List File) → g.F.Folder.files l.initial.folder ≡ Some files
    → with_prefix l.contents (contents_from files l.directory (l.before + 1) (l.threads - l.before)) ≡ contents_from files l.directory 1 l.threads)
