-- The files of a made recording in a directory.
use Rattle.std.specs.Prelude.{ℕ, List}
use Rattle.gp_outside.specs.Folders.{File}
use Rattle.gp_files.specs.Writing.{files_at}
use Rattle.gp_make.specs.declared.recipe.Recipe.{Recipe}
use Rattle.gp_make.specs.Files.{made_files}

-- the made files in this directory, in the order in which they are written
abbrev pub made_at : List ℕ → Recipe → List File
made_at directory recipe = files_at directory (made_files recipe)
