-- The files of a recording are read as the recording.
use Rattle.std.proofs.Common.{◌≡◌, refl, sym, ap, ◌∙◌, ℕ, ◌+◌, ◌-◌, ◌≤◌, true, List, [], ◌∷◌, map, length, Some, Result, Ok, Err, is_ok, if◌then◌else◌}
use Rattle.std.specs.List.{AllByRecursion}
use Rattle.std.proofs.lemmas.Bool.{false≢true, le-ltb}
use Rattle.std.proofs.lemmas.List.Elements.{recursion_from_All}
use Rattle.gp_base.specs.Results.{and_then, or_refused, then_rest}
use Rattle.gp_files.specs.MadeFileForm.{MadeFileForm}
use Rattle.gp_files.specs.Writing.{files_at}
use Rattle.gp_outside.specs.Folders.{File, file_named}
use Rattle.gp_trace.specs.LockUse.{AreOfFormat}
use Rattle.gp_trace.specs.Printed.{TraceReadsAgain, trace_text}
use Rattle.gp_trace.specs.Trace.{in_order, IsLocalTrace, LocalTraceForm}
use Rattle.gp_trace.specs.Walk.{trace_of}
use Rattle.gp_window.specs.declared.content.ContentFault.{ContentFault}
use Rattle.gp_window.specs.declared.content.ContentFault.TheVariants.{TooLong}
use Rattle.gp_window.specs.declared.fault.RecordingFault.{RecordingFault}
use Rattle.gp_window.specs.declared.file_name.FileName.TheVariants.{Manifest, Trace}
use Rattle.gp_window.specs.Contents.{content_of, content_where, contents_from}
use Rattle.gp_window.specs.FileNames.{limit_of, path_of}
use Rattle.gp_window.specs.Manifest.{manifest_of_text}
use Rattle.gp_window.specs.ManifestForm.{ManifestForm}
use Rattle.gp_window.specs.Marks.{after_marks}
use Rattle.gp_window.specs.Recording.{checked, from_content, manifest_at, manifest_or_fault, recording_with, trace_or_fault, traces_from}
use Rattle.gp_window.specs.RecordingForm.{AreNumbered, IsRecording, RecordingForm}
use Rattle.gp_window.specs.Starts.{after_traces}
use Rattle.gp_cut_files.specs.CutFiles.{manifest_file, recording_files, trace_file}
use Rattle.gp_cut_files.specs.ManifestText.{ManifestReadsAgain, manifest_text}
use Rattle.gp_cut_files.specs.Reading.{CanBeSpelled, RecordingReadsAgain, StandIn}

-- what a step gave goes into the next one
goes_on : {A B E : Type 0} (step : Result A E) (next : A → Result B E) (value : A) → step ≡ Ok value → and_then step next ≡ next value
goes_on step next value is = ap (λ given. and_then given next) is

-- a value before those of the rest
joins : {A E : Type 0} (one : Result A E) (rest : Result (List A) E) (value : A) (values : List A) → one ≡ Ok value → rest ≡ Ok values
    → then_rest one rest ≡ Ok (value ∷ values)
joins one rest value values is are = ap (λ given. then_rest given rest) is ∙ ap (then_rest (Ok value)) are

-- a file stands with its text in a directory, within its limit
abbrev Stands : List File → List ℕ → MadeFileForm → Type 0
Stands files directory made = (file_named files (path_of directory made.name) ≡ Some made.text) × (length made.text ≤ limit_of made.name)

all_stand : (files : List File) (directory : List ℕ) (made : List MadeFileForm)
    → AllByRecursion (λ (file : File). file_named files file.name ≡ Some file.bytes) (files_at directory made)
    → AllByRecursion (λ (file : MadeFileForm). length file.text ≤ limit_of file.name) made → AllByRecursion (Stands files directory) made
all_stand files directory [] texts fit = tt
all_stand files directory (file ∷ made) texts fit = ((texts.0, fit.0), all_stand files directory made texts.1 fit.1)

stand : (files : List File) (directory : List ℕ) (made : List MadeFileForm) → StandIn files directory made → AllByRecursion (Stands files directory) made
stand files directory made there =
    all_stand files directory made
    (recursion_from_All (λ (file : File). file_named files file.name ≡ Some file.bytes) (files_at directory made) there.texts)
    (recursion_from_All (λ (file : MadeFileForm). length file.text ≤ limit_of file.name) made there.fit)

-- the bytes of such a file are its text
content_there : (files : List File) (directory : List ℕ) (made : MadeFileForm) → Stands files directory made → content_of files directory made.name ≡ Ok made.text
content_there files directory made there =
    let due : Result (List ℕ) ContentFault = Ok made.text in
    ap (content_where made.name) there.0
    ∙ ap (λ over. if over then Err (TooLong made.name) else due) (le-ltb (limit_of made.name) (length made.text) there.1)

-- the bytes of the traces are their texts
contents_there : (files : List File) (directory : List ℕ) (epochs thread : ℕ) (traces : List LocalTraceForm) → AreNumbered epochs thread traces
    → AllByRecursion (Stands files directory) (map trace_file traces)
    → contents_from files directory thread (length traces) ≡ Ok (map trace_text traces)
contents_there files directory epochs thread [] numbered there = refl
contents_there files directory epochs thread (trace ∷ traces) numbered there =
    joins (content_of files directory (Trace thread)) (contents_from files directory (thread + 1) (length traces)) (trace_text trace) (map trace_text traces)
    (ap (λ k. content_of files directory (Trace k)) (sym numbered.0) ∙ content_there files directory (trace_file trace) there.0)
    (contents_there files directory epochs (thread + 1) traces numbered.2 there.1)

-- the texts of the traces are read as the traces
traces_again : TraceReadsAgain → (format epochs thread : ℕ) (traces : List LocalTraceForm) → AreNumbered epochs thread traces
    → AllByRecursion IsLocalTrace traces → AllByRecursion (λ (trace : LocalTraceForm). AreOfFormat format (in_order trace.segments)) traces
    → traces_from format (epochs - 1) thread (map trace_text traces) ≡ Ok traces
traces_again again format epochs thread [] numbered rules belong = refl
traces_again again format epochs thread (trace ∷ traces) numbered rules belong =
    let read : trace_of format thread (epochs - 1) (trace_text trace) ≡ Ok trace =
    ap (λ k. trace_of format k (epochs - 1) (trace_text trace)) (sym numbered.0)
    ∙ ap (λ k. trace_of format trace.thread (k - 1) (trace_text trace)) (sym numbered.1)
    ∙ again format trace rules.0 belong.0 in
    joins (trace_or_fault thread (trace_of format thread (epochs - 1) (trace_text trace))) (traces_from format (epochs - 1) (thread + 1) (map trace_text traces)) trace traces
    (ap (trace_or_fault thread) read)
    (traces_again again format epochs (thread + 1) traces numbered.2 rules.1 belong.1)

-- a step that is right goes on, whatever it gave
passes : {A B E : Type 0} (step : Result A E) (next : A → Result B E) (due : Result B E) → is_ok step ≡ true → ((value : A) → next value ≡ due) → and_then step next ≡ due
passes (Ok value) next due ok goes = goes value
passes (Err fault) next due ok goes = absurd (false≢true ok)

-- the checks of a recording pass
checks_pass : (r : RecordingForm) → IsRecording r → checked r.manifest r.traces ≡ Ok r
checks_pass r rules =
    let due : Result RecordingForm RecordingFault = Ok r in
    passes (after_traces r.manifest.threads r.manifest.roots [] r.traces) (λ started. and_then (after_marks r.manifest.epochs r.traces) (λ u. due)) due rules.starts
    (λ started. goes_on (after_marks r.manifest.epochs r.traces) (λ u. due) tt rules.holders)

module _ (again : ManifestReadsAgain) (traces : TraceReadsAgain) (files : List File) (directory : List ℕ) (r : RecordingForm) (can : CanBeSpelled r)
    (there : AllByRecursion (Stands files directory) (recording_files r)) where
  manifest_there : manifest_at files directory ≡ Ok r.manifest
  manifest_there =
      let bytes : or_refused from_content (content_of files directory Manifest) ≡ Ok (manifest_text r.manifest) =
      ap (or_refused from_content) (content_there files directory (manifest_file r.manifest) there.0) in
      goes_on (or_refused from_content (content_of files directory Manifest)) (λ bytes. manifest_or_fault (manifest_of_text bytes)) (manifest_text r.manifest) bytes
      ∙ ap manifest_or_fault (again r.manifest can.rules.manifest can.values)

  texts_there : or_refused from_content (contents_from files directory 1 r.manifest.threads) ≡ Ok (map trace_text r.traces)
  texts_there =
      ap (λ n. or_refused from_content (contents_from files directory 1 n)) (sym can.rules.count)
      ∙ ap (or_refused from_content) (contents_there files directory r.manifest.epochs 1 r.traces can.rules.numbered there.1)

  traces_there : recording_with r.manifest (map trace_text r.traces) ≡ Ok r
  traces_there =
      goes_on (traces_from r.manifest.format (r.manifest.epochs - 1) 1 (map trace_text r.traces)) (λ read. checked r.manifest read) r.traces
      (traces_again traces r.manifest.format r.manifest.epochs 1 r.traces can.rules.numbered
      (recursion_from_All IsLocalTrace r.traces can.rules.traces)
      (recursion_from_All (λ (trace : LocalTraceForm). AreOfFormat r.manifest.format (in_order trace.segments)) r.traces can.format))
      ∙ checks_pass r can.rules

pub recording_again : ManifestReadsAgain → TraceReadsAgain → RecordingReadsAgain
recording_again again traces files directory r can there =
    let standing = stand files directory (recording_files r) there in
    let next : ManifestForm → Result RecordingForm RecordingFault =
    λ manifest. and_then (or_refused from_content (contents_from files directory 1 manifest.threads)) (λ contents. recording_with manifest contents) in
    goes_on (manifest_at files directory) next r.manifest (manifest_there again traces files directory r can standing)
    ∙ goes_on (or_refused from_content (contents_from files directory 1 r.manifest.threads)) (λ contents. recording_with r.manifest contents) (map trace_text r.traces)
    (texts_there again traces files directory r can standing)
    ∙ traces_there again traces files directory r can standing
