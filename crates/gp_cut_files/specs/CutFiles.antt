-- The files of a recording, and those of windows that are cut out of one.
use Rattle.std.specs.Prelude.{ℕ, List, ◌∷◌, map}
use Rattle.gp_cut.specs.Cut.{cut_of}
use Rattle.gp_files.specs.MadeFileForm.{MadeFileForm}
use Rattle.gp_trace.specs.Printed.{trace_text}
use Rattle.gp_trace.specs.Trace.{LocalTraceForm}
use Rattle.gp_window.specs.declared.file_name.FileName.TheVariants.{Manifest, Trace}
use Rattle.gp_window.specs.ManifestForm.{ManifestForm}
use Rattle.gp_window.specs.RecordingForm.{RecordingForm}
use Rattle.gp_cut_files.specs.ManifestText.{manifest_text}

-- the file of a manifest
abbrev pub manifest_file : ManifestForm → MadeFileForm
manifest_file manifest = record { name = Manifest; text = manifest_text manifest }

-- the file of a trace
abbrev pub trace_file : LocalTraceForm → MadeFileForm
trace_file trace = record { name = Trace trace.thread; text = trace_text trace }

-- the files of a recording: the manifest, and then the traces by thread
abbrev pub recording_files : RecordingForm → List MadeFileForm
recording_files r = manifest_file r.manifest ∷ map trace_file r.traces

-- the files of so many windows of a recording behind so many, with their stage
abbrev pub cut_files : ℕ → ℕ → RecordingForm → List MadeFileForm
cut_files before count r = recording_files (cut_of before count r)
