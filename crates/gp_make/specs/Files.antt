-- The files of the recording.
use Rattle.std.specs.Prelude.{ℕ, List, [], ◌∷◌, ◌++◌, map}
use Rattle.std.specs.List.{range_with_len}
use Rattle.gp_text.specs.Spelling.{spelling}
use Rattle.gp_trace.specs.Printed.{trace_text}
use Rattle.gp_window.specs.declared.file_name.FileName.{FileName}
use Rattle.gp_window.specs.declared.file_name.FileName.TheVariants.{Manifest, Trace, Properties}
use Rattle.gp_make.specs.declared.recipe.Recipe.{Recipe}
use Rattle.gp_files.specs.MadeFileForm.{MadeFileForm}
use Rattle.gp_make.specs.Texts.{made_trace, manifest_lines, property_lines}

-- a file with the text of these lines
abbrev pub file_of : FileName → List (List (List ℕ)) → MadeFileForm
file_of name lines = record { name = name; text = spelling lines }

-- the file of a thread's trace
abbrev pub trace_file : Recipe → ℕ → MadeFileForm
trace_file recipe thread = record { name = Trace thread; text = trace_text (made_trace recipe thread) }

-- the files of a recording, in the order in which they are written: the manifest, the traces by thread, the properties
abbrev pub made_files : Recipe → List MadeFileForm
made_files recipe =
    file_of Manifest (manifest_lines recipe)
    ∷ (map (trace_file recipe) (range_with_len 1 recipe.threads) ++ file_of Properties property_lines ∷ [])
