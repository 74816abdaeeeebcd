-- The numbers so far, and then those of the threads that are left, are all.
use Rattle.std.proofs.Common.{◌≡◌, ◌≤◌, List, drop}
use Rattle.std.specs.Prelude.{Some}
use Rattle.gp_base.specs.Results.{with_prefix}
use Rattle.gp_outside.specs.Folders.{File}
use Rattle.gp_beside.specs.Beside.{all_numbers}
use Rattle.gp_beside.proofs.beside.all_numbers.Given as goal

abbrev pub invariant-loop-trace : goal.invariant-loop-trace
invariant-loop-trace g l =
    (g.F.Folder.faults l.initial.folder ≤ g.F.Folder.faults l.folder)
    × (g.F.Folder.files l.folder ≡ g.F.Folder.files l.initial.folder)
    × ((files : List File) → g.F.Folder.files l.initial.folder ≡ Some files
    → with_prefix l.numbers (all_numbers files l.directory l.places (drop l.trace-index l.traces)) ≡ all_numbers files l.directory l.places l.traces)
