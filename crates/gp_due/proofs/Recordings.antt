-- Files are no recording by a fault of a file, or of the threads and locks of the traces.
use Rattle.std.proofs.Common.{ℕ, ◌+◌, ◌-◌, List, [], ◌∷◌, Result, Ok, Err}
use Rattle.gp_outside.specs.Folders.{File}
use Rattle.gp_trace.specs.declared.fault.TraceFault.{TraceFault}
use Rattle.gp_trace.specs.declared.fault.TraceFault.TheVariants as of_trace
use Rattle.gp_trace.specs.Trace.{LocalTraceForm}
use Rattle.gp_trace.specs.Walk.{trace_of}
use Rattle.gp_window.specs.declared.content.ContentFault.{ContentFault}
use Rattle.gp_window.specs.declared.content.ContentFault.TheVariants as of_content
use Rattle.gp_window.specs.declared.file_name.FileName.TheVariants as file
use Rattle.gp_window.specs.declared.manifest.ManifestFault.{ManifestFault}
use Rattle.gp_window.specs.declared.manifest.ManifestFault.TheVariants as of_manifest
use Rattle.gp_window.specs.Manifest.{manifest_of_text}
use Rattle.gp_window.specs.ManifestForm.{ManifestForm}
use Rattle.gp_window.specs.Recording.{checked, from_content, from_manifest, from_trace, manifest_at, manifest_or_fault, recording_with, trace_or_fault, traces_from}
use Rattle.gp_due.specs.Readers.{RecordingsWantNoMemory}
use Rattle.gp_due.specs.Saying.{ContentSays, ManifestSays, OnlySays, RecordingSays, TraceSays}
use Rattle.gp_due.proofs.Contents.{all_contents_say, contents_say}
use Rattle.gp_due.proofs.Manifests.{manifests_say}
use Rattle.gp_due.proofs.Starts.{marks_say, starts_say}
use Rattle.gp_due.proofs.Traces.{traces_say}
use Rattle.gp_due.proofs.Results as of

content_fault_says : (fault : ContentFault) → ContentSays fault → RecordingSays (from_content fault)
content_fault_says (of_content.Absent name) says = tt
content_fault_says (of_content.TooLong name) says = tt
content_fault_says of_content.ReadFailed says = says
content_fault_says of_content.Memory says = says

manifest_fault_says : (fault : ManifestFault) → ManifestSays fault → RecordingSays (from_manifest fault)
manifest_fault_says (of_manifest.Text text) says = says
manifest_fault_says (of_manifest.Line line) says = tt
manifest_fault_says of_manifest.Memory says = says

trace_fault_says : (thread : ℕ) (fault : TraceFault) → TraceSays fault → RecordingSays (from_trace thread fault)
trace_fault_says thread (of_trace.Text text) says = says
trace_fault_says thread (of_trace.AfterExit line) says = tt
trace_fault_says thread (of_trace.BadWord line) says = tt
trace_fault_says thread (of_trace.NameSelf line) says = tt
trace_fault_says thread (of_trace.ReleaseUnheld line) says = tt
trace_fault_says thread (of_trace.AcquireHeld line) says = tt
trace_fault_says thread (of_trace.RegionUnmatched line) says = tt
trace_fault_says thread (of_trace.MarkCount line) says = tt
trace_fault_says thread of_trace.Memory says = says

manifest_says : (read : Result ManifestForm ManifestFault) → OnlySays ManifestSays read → OnlySays RecordingSays (manifest_or_fault read)
manifest_says (Ok manifest) says = of.value
manifest_says (Err fault) says = of.fault (manifest_fault_says fault says.fault)

trace_says : (thread : ℕ) (read : Result LocalTraceForm TraceFault) → OnlySays TraceSays read → OnlySays RecordingSays (trace_or_fault thread read)
trace_says thread (Ok trace) says = of.value
trace_says thread (Err fault) says = of.fault (trace_fault_says thread fault says.fault)

traces_say_from : (format marks thread : ℕ) (contents : List (List ℕ)) → OnlySays RecordingSays (traces_from format marks thread contents)
traces_say_from format marks thread [] = of.value
traces_say_from format marks thread (bytes ∷ more) =
    of.before_rest (trace_says thread (trace_of format thread marks bytes) (traces_say format thread marks bytes)) (traces_say_from format marks (thread + 1) more)

checks_say : (manifest : ManifestForm) (traces : List LocalTraceForm) → OnlySays RecordingSays (checked manifest traces)
checks_say manifest traces =
    of.in_turn (starts_say manifest.threads manifest.roots [] traces) (λ started. of.in_turn (marks_say manifest.epochs traces) (λ u. of.value))

with_says : (manifest : ManifestForm) (contents : List (List ℕ)) → OnlySays RecordingSays (recording_with manifest contents)
with_says manifest contents = of.in_turn (traces_say_from manifest.format (manifest.epochs - 1) 1 contents) (λ traces. checks_say manifest traces)

manifest_at_says : (files : List File) (folder : List ℕ) → OnlySays RecordingSays (manifest_at files folder)
manifest_at_says files folder =
    of.in_turn (of.refused from_content content_fault_says (contents_say files folder file.Manifest)) (λ bytes. manifest_says (manifest_of_text bytes) (manifests_say bytes))

pub recordings_say : RecordingsWantNoMemory
recordings_say files folder =
    of.in_turn (manifest_at_says files folder) (λ manifest.
    of.in_turn (of.refused from_content content_fault_says (all_contents_say files folder 1 manifest.threads)) (λ contents. with_says manifest contents))
