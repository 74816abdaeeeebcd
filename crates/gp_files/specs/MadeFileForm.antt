-- What contracts see of a file that is made for a folder.
use Rattle.std.specs.Prelude.{ℕ, List}
use Rattle.gp_window.specs.declared.file_name.FileName.{FileName}

-- a file that is made for a folder: which one of the folder it is, and its text
pub record MadeFileForm : Type 0 where
  pub name : FileName
  pub text : List ℕ
