-- Which folders a cut does not write into: those that hold a recording which is no part.
use Rattle.std.specs.Prelude.{ℕ, ◌&&◌, Bool, not, is_some, List, Result, Ok, Err, if◌then◌else◌}
use Rattle.gp_outside.specs.Folders.{File, file_named}
use Rattle.gp_predict.specs.declared.reply.Reply.{Reply}
use Rattle.gp_window.specs.declared.file_name.FileName.{FileName}
use Rattle.gp_window.specs.declared.file_name.FileName.TheVariants as file
use Rattle.gp_window.specs.FileNames.{path_of}
use Rattle.gp_shards.specs.declared.refusal.PartFault.TheVariants.{HoldsRecording}
use Rattle.gp_shards.specs.Refusing.{part_refusal}

-- whether a folder has this file
abbrev pub is_there : List File → List ℕ → FileName → Bool
is_there files folder name = is_some (file_named files (path_of folder name))

-- whether a folder holds a recording that is no part: it has a manifest, and no file that says which part it has
abbrev pub holds_recording : List File → List ℕ → Bool
holds_recording files folder = is_there files folder file.Manifest && not (is_there files folder file.Shard)

-- a folder that holds one is refused
abbrev pub unless_recording : List File → List ℕ → Result (Unit {0}) Reply
unless_recording files out = if holds_recording files out then Err (part_refusal out HoldsRecording) else Ok tt
