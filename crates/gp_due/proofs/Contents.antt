-- The bytes of a file are not told by a fault of the file.
use Rattle.std.proofs.Common.{ℕ, zero, suc, ◌+◌, List, Option, Some, None, length, nat_lt}
use Rattle.gp_outside.specs.Folders.{File, file_named}
use Rattle.gp_window.specs.declared.file_name.FileName.{FileName}
use Rattle.gp_window.specs.declared.file_name.FileName.TheVariants.{Trace}
use Rattle.gp_window.specs.Contents.{content_where, contents_from}
use Rattle.gp_window.specs.FileNames.{limit_of, path_of}
use Rattle.gp_due.specs.Readers.{ContentsWantNoMemory}
use Rattle.gp_due.specs.Saying.{ContentSays, OnlySays}
use Rattle.gp_due.proofs.Results as of

where_says : (file : FileName) (found : Option (List ℕ)) → OnlySays ContentSays (content_where file found)
where_says file None = of.fault tt
where_says file (Some bytes) = of.either (nat_lt (limit_of file) (length bytes)) (of.fault tt) of.value

pub contents_say : ContentsWantNoMemory
contents_say files folder file = where_says file (file_named files (path_of folder file))

pub all_contents_say : (files : List File) (folder : List ℕ) (thread threads : ℕ) → OnlySays ContentSays (contents_from files folder thread threads)
all_contents_say files folder thread zero = of.value
all_contents_say files folder thread (suc more) = of.before_rest (contents_say files folder (Trace thread)) (all_contents_say files folder (thread + 1) more)
