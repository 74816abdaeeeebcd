-- The traces while they are written.
use Rattle.std.specs.Prelude.{ℕ, List, ◌≡◌, ◌++◌, map}
use Rattle.std.specs.List.{range_with_len}
use Rattle.gp_text.specs.Spelling.{spelling}
use Rattle.gp_trace.specs.Printed.{event_lines, segment_lines}
use Rattle.gp_window.specs.declared.file_name.FileName.TheVariants.{Trace}
use Rattle.gp_make.specs.declared.action.Event.{Event}
use Rattle.gp_make.specs.declared.recipe.Recipe.{Recipe}
use Rattle.gp_make.specs.Files.{file_of}
use Rattle.gp_files.specs.MadeFileForm.{MadeFileForm}
use Rattle.gp_make.specs.Texts.{made_trace, told_by}

-- the lines of those of the events that this thread did
abbrev pub lines_of : ℕ → List Event → List (List (List ℕ))
lines_of thread events = event_lines (told_by thread events)

-- all lines of the trace of a thread
abbrev pub trace_lines : Recipe → ℕ → List (List (List ℕ))
trace_lines recipe thread = segment_lines (made_trace recipe thread).exit_in (made_trace recipe thread).segments

-- a file with further lines at its end
abbrev pub with_lines : MadeFileForm → List (List (List ℕ)) → MadeFileForm
with_lines file lines = record file { text = file.text ++ spelling lines }

-- the traces of so many threads, where the trace of each thread has its lines
abbrev pub traces_with : ℕ → (ℕ → List (List (List ℕ))) → List MadeFileForm
traces_with threads lines = map (λ thread. file_of (Trace thread) (lines thread)) (range_with_len 1 threads)

-- behind the lines that it had, each trace has got these lines of its thread
abbrev pub TracesGrow : List MadeFileForm → List MadeFileForm → (ℕ → List (List (List ℕ))) → Type 0
TracesGrow old new more =
    (threads : ℕ) (lines : ℕ → List (List (List ℕ)))
    → old ≡ traces_with threads lines → new ≡ traces_with threads (λ thread. lines thread ++ more thread)
