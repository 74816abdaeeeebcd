-- The recording in the files of a folder: a function of the files alone.
use Rattle.std.specs.Prelude.{ℕ, ◌+◌, ◌-◌, List, [], ◌∷◌, Option, Some, None, Result, Ok, Err}
use Rattle.gp_outside.specs.Folders.{File}
use Rattle.gp_trace.specs.declared.fault.TraceFault.{TraceFault}
use Rattle.gp_trace.specs.declared.fault.TraceFault.TheVariants as of_trace
use Rattle.gp_trace.specs.Trace.{LocalTraceForm}
use Rattle.gp_trace.specs.Walk.{trace_of}
use Rattle.gp_window.specs.declared.content.ContentFault.{ContentFault}
use Rattle.gp_window.specs.declared.content.ContentFault.TheVariants as of_content
use Rattle.gp_window.specs.declared.file_name.FileName.TheVariants as file
use Rattle.gp_window.specs.declared.fault.RecordingFault.{RecordingFault}
use Rattle.gp_window.specs.declared.fault.RecordingFault.TheVariants as fault
use Rattle.gp_window.specs.declared.manifest.ManifestFault.{ManifestFault}
use Rattle.gp_window.specs.declared.manifest.ManifestFault.TheVariants as of_manifest
use Rattle.gp_window.specs.Contents.{content_of, contents_from}
use Rattle.gp_window.specs.Marks.{after_marks}
use Rattle.gp_window.specs.Manifest.{manifest_of_text}
use Rattle.gp_window.specs.ManifestForm.{ManifestForm}
use Rattle.gp_window.specs.RecordingForm.{RecordingForm}
use Rattle.gp_base.specs.Results.{and_then, or_refused, then_rest}
use Rattle.gp_window.specs.Starts.{after_traces}

-- the recording of a manifest and traces, or the first check that fails: first the walk over starts
-- and joins, and after it the holders over the marks
abbrev pub checked : ManifestForm → List LocalTraceForm → Result RecordingForm RecordingFault
checked manifest traces =
    and_then (after_traces manifest.threads manifest.roots [] traces) (λ started.
    and_then (after_marks manifest.epochs traces) (λ u.
    Ok (record { manifest = manifest; traces = traces })))

-- a fault of reading a file as one of the recording
abbrev pub from_content : ContentFault → RecordingFault
from_content (of_content.Absent file) = fault.Absent file
from_content (of_content.TooLong file) = fault.TooLong file
from_content of_content.ReadFailed = fault.ReadFailed
from_content of_content.Memory = fault.Memory

-- a fault of the manifest as one of the recording
abbrev pub from_manifest : ManifestFault → RecordingFault
from_manifest (of_manifest.Text text) = fault.ManifestText text
from_manifest (of_manifest.Line line) = fault.ManifestLine line
from_manifest of_manifest.Memory = fault.Memory

-- a manifest that was read, or its fault as one of the recording
abbrev pub manifest_or_fault : Result ManifestForm ManifestFault → Result ManifestForm RecordingFault
manifest_or_fault (Ok manifest) = Ok manifest
manifest_or_fault (Err cause) = Err (from_manifest cause)

-- a fault of a thread's trace as one of the recording
abbrev pub from_trace : ℕ → TraceFault → RecordingFault
from_trace thread of_trace.Memory = fault.Memory
from_trace thread cause = fault.Trace thread cause

-- a trace that was read, or its fault as one of the recording
abbrev pub trace_or_fault : ℕ → Result LocalTraceForm TraceFault → Result LocalTraceForm RecordingFault
trace_or_fault thread (Ok trace) = Ok trace
trace_or_fault thread (Err cause) = Err (from_trace thread cause)

-- the traces that these texts spell, from this thread on
abbrev pub traces_from : ℕ → ℕ → ℕ → List (List ℕ) → Result (List LocalTraceForm) RecordingFault
traces_from format marks thread [] = Ok []
traces_from format marks thread (bytes ∷ more) =
    then_rest (trace_or_fault thread (trace_of format thread marks bytes)) (traces_from format marks (thread + 1) more)

-- the recording of a manifest and the texts of the traces
abbrev pub recording_with : ManifestForm → List (List ℕ) → Result RecordingForm RecordingFault
recording_with manifest contents =
    and_then (traces_from manifest.format (manifest.epochs - 1) 1 contents) (λ traces. checked manifest traces)

-- the manifest of the recording in this directory
abbrev pub manifest_at : List File → List ℕ → Result ManifestForm RecordingFault
manifest_at files directory =
    and_then (or_refused from_content (content_of files directory file.Manifest)) (λ bytes. manifest_or_fault (manifest_of_text bytes))

-- the recording in this directory: the manifest, then the bytes of all traces, and only then what
-- they spell, by thread, and the checks
abbrev pub recording_of : List File → List ℕ → Result RecordingForm RecordingFault
recording_of files directory =
    and_then (manifest_at files directory) (λ manifest.
    and_then (or_refused from_content (contents_from files directory 1 manifest.threads)) (λ contents.
    recording_with manifest contents))

-- what a fault says of the files; a fault of the folder and want of memory say nothing
abbrev pub recording_cause : RecordingFault → Option RecordingFault
recording_cause fault.ReadFailed = None
recording_cause fault.Memory = None
recording_cause cause = Some cause
