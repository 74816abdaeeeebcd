use Rattle.std.proofs.Common.{◌≤◌, drop}
use Rattle.gp_files.specs.Writing.{WhereTold, files_at}
use Rattle.gp_files.proofs.Leading.{Leads}
use Rattle.gp_files.proofs.writing.write_files.Given as goal

abbrev pub invariant-loop-file : goal.invariant-loop-file
invariant-loop-file g l =
    (g.F.Folder.faults l.initial.folder ≤ g.F.Folder.faults l.folder)
    × WhereTold (g.F.Folder.files l.initial.folder) (g.F.Folder.files l.folder)
    (Leads (files_at l.directory (drop l.file-index l.files)) (files_at l.directory l.files))
