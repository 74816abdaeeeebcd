-- The files of the second window of a small recording.
use Rattle.std.specs.Prelude.{◌≡◌, [], ◌∷◌, codes}
use Rattle.gp_cut.specs.Examples.{recording}
use Rattle.gp_files.specs.MadeFileForm.{MadeFileForm}
use Rattle.gp_window.specs.declared.file_name.FileName.TheVariants.{Manifest, Trace}
use Rattle.gp_cut_files.specs.CutFiles.{cut_files}

-- the manifest: both threads are roots, and a value of 0 is given too
abbrev manifest : MadeFileForm
manifest = record { name = Manifest; text = codes "gptrace 2\nthreads 2\nepochs 2\nroots 1 2\nvalue 2 x 7\nvalue 2 y 0\n" }

-- the thread that holds a lock and is in two regions
abbrev first : MadeFileForm
first = record { name = Trace 1; text = codes "acquire m\nbegin f\nbegin g\nmark\nwrite x 8\nend g\n" }

-- the thread that reads a lock, and ends behind the stage
abbrev second : MadeFileForm
second = record { name = Trace 2; text = codes "racquire l\nmark\nread x 7\nrrelease l\nexit\n" }

pub record ExamplesHold : Type 0 where
  pub files : cut_files 1 1 recording ≡ manifest ∷ first ∷ second ∷ []
