use Rattle.std.proofs.Common.{◌≡◌, drop}
use Rattle.gp_outside.specs.Folders.{file_named}
use Rattle.gp_outside.specs.MemoryFolders.{files_of}
use Rattle.gp_outside.proofs.memory_folders.content_of.Given as goal

abbrev pub invariant-loop-own : goal.invariant-loop-own
invariant-loop-own l = file_named (files_of (drop l.own-index l.files)) l.name ≡ file_named (files_of l.files) l.name
