-- What is known of a recording that was read.
use Rattle.std.proofs.Common.{◌≡◌, refl, sym, ap, ◌∙◌, subst, ℕ, zero, suc, ◌+◌, ◌-◌, ◌≤◌, Bool, true, false, List, [], ◌∷◌, length, Option, None, Some, Result, Ok, Err, is_ok, if◌then◌else◌, arith}
use Rattle.std.specs.Prelude.{All, nat_lt}
use Rattle.std.specs.List.{AllByRecursion}
use Rattle.std.proofs.lemmas.Bool.{ltb-false}
use Rattle.std.proofs.lemmas.List.Elements.{All-from_recursion}
use Rattle.gp_base.specs.Results.{and_then, or_refused, then_rest}
use Rattle.gp_outside.specs.Folders.{File, file_named}
use Rattle.gp_text.specs.declared.line.Line.{Line}
use Rattle.gp_text.specs.declared.lines.TextFault.{TextFault}
use Rattle.gp_text.specs.Lines.{end_line_of, lines_of}
use Rattle.gp_trace.specs.declared.fault.TraceFault.{TraceFault}
use Rattle.gp_trace.specs.LockUse.{AreOfFormat}
use Rattle.gp_trace.specs.Trace.{in_order, IsLocalTrace, LocalTraceForm}
use Rattle.gp_trace.specs.Walk.{IsTraceOf, TracesFit, trace_of}
use Rattle.gp_window.specs.declared.content.ContentFault.{ContentFault}
use Rattle.gp_window.specs.declared.content.ContentFault.TheVariants.{TooLong}
use Rattle.gp_window.specs.declared.fault.RecordingFault.{RecordingFault}
use Rattle.gp_window.specs.declared.file_name.FileName.{FileName}
use Rattle.gp_window.specs.declared.file_name.FileName.TheVariants.{Manifest, Trace}
use Rattle.gp_window.specs.declared.manifest.ManifestFault.{ManifestFault}
use Rattle.gp_window.specs.Contents.{content_of, content_where, contents_from}
use Rattle.gp_window.specs.FileNames.{limit_of, path_of}
use Rattle.gp_window.specs.Grammar.{IsStartValue, ManifestsAreSpelled}
use Rattle.gp_window.specs.Manifest.{manifest_in, manifest_of_text}
use Rattle.gp_window.specs.ManifestForm.{IsManifest, ManifestForm}
use Rattle.gp_window.specs.Marks.{after_marks}
use Rattle.gp_window.specs.Recording.{checked, from_content, manifest_at, manifest_or_fault, recording_with, trace_or_fault, traces_from}
use Rattle.gp_window.specs.RecordingForm.{AreNumbered, RecordingForm}
use Rattle.gp_window.specs.Starts.{after_traces}
use Rattle.gp_cut_files.specs.Reading.{CanBeSpelled, WhatIsReadCanBeSpelled}

-- what the first step gave, where the whole gave something
gave : {A B E : Type 0} (step : Result A E) (next : A → Result B E) (result : B) → and_then step next ≡ Ok result → (value : A) × (step ≡ Ok value) × (next value ≡ Ok result)
gave (Ok value) next result e = (value, refl, e)
gave (Err fault) next result e = cc

-- what a value before a rest is made of
parts_gave : {A E : Type 0} (one : Result A E) (rest : Result (List A) E) (all : List A) → then_rest one rest ≡ Ok all
    → (value : A) × (values : List A) × (one ≡ Ok value) × (rest ≡ Ok values) × (all ≡ value ∷ values)
parts_gave (Ok value) (Ok values) all e = (value, values, refl, refl, (cc))
parts_gave (Ok value) (Err fault) all e = cc
parts_gave (Err fault) rest all e = cc

not_refused : {A E F : Type 0} (refusal : F → E) (given : Result A F) (value : A) → or_refused refusal given ≡ Ok value → given ≡ Ok value
not_refused refusal (Ok other) value e = let same : other ≡ value = (cc) in ap Ok same
not_refused refusal (Err fault) value e = cc

manifest_was : (given : Result ManifestForm ManifestFault) (m : ManifestForm) → manifest_or_fault given ≡ Ok m → given ≡ Ok m
manifest_was (Ok other) m e = let same : other ≡ m = (cc) in ap Ok same
manifest_was (Err fault) m e = cc

trace_was : (thread : ℕ) (given : Result LocalTraceForm TraceFault) (trace : LocalTraceForm) → trace_or_fault thread given ≡ Ok trace → given ≡ Ok trace
trace_was thread (Ok other) trace e = let same : other ≡ trace = (cc) in ap Ok same
trace_was thread (Err fault) trace e = cc

-- a manifest that was read keeps its rules, and its values can be spelled
manifest_fits : ManifestsAreSpelled → (last : ℕ) (lines : Result (List Line) TextFault) (m : ManifestForm) → manifest_in last lines ≡ Ok m
    → IsManifest m × All IsStartValue m.values
manifest_fits spelled last (Ok lines) m e = let is = (spelled last lines m).0 e in (is.kept, is.values)
manifest_fits spelled last (Err fault) m e = cc

-- bytes that were read are within their limit
within : (file : FileName) (content bytes : List ℕ) (over : Bool) → nat_lt (limit_of file) (length content) ≡ over
    → ◌≡◌ {A = Result (List ℕ) ContentFault} (if over then Err (TooLong file) else Ok content) (Ok bytes) → length bytes ≤ limit_of file
within file content bytes true is e = cc
within file content bytes false is e =
    let same : content ≡ bytes = (cc) in
    subst (λ (xs : List ℕ). length xs ≤ limit_of file) same (ltb-false (limit_of file) (length content) is)

content_fits : (file : FileName) (found : Option (List ℕ)) (bytes : List ℕ) → content_where file found ≡ Ok bytes → length bytes ≤ limit_of file
content_fits file None bytes e = cc
content_fits file (Some content) bytes e = within file content bytes (nat_lt (limit_of file) (length content)) refl e

-- so many texts were read, each within the limit of a trace
record AreTexts (number : ℕ) (contents : List (List ℕ)) : Type 0 where
  count : length contents ≡ number
  fit : AllByRecursion (λ (bytes : List ℕ). length bytes ≤ 2097152) contents

texts_read : (files : List File) (directory : List ℕ) (thread count : ℕ) (contents : List (List ℕ)) → contents_from files directory thread count ≡ Ok contents
    → AreTexts count contents
texts_read files directory thread zero contents e =
    let none : [] ≡ contents = (cc) in
    subst (AreTexts 0) none (record { count = refl; fit = tt })
texts_read files directory thread (suc count) contents e =
    let parts = parts_gave (content_of files directory (Trace thread)) (contents_from files directory (thread + 1) count) contents e in
    let later = texts_read files directory (thread + 1) count parts.1 parts.3 in
    subst (AreTexts (suc count)) (sym parts.4) (record {
      count = ap suc later.count;
      fit = (content_fits (Trace thread) (file_named files (path_of directory (Trace thread))) parts.0 parts.2, later.fit);
    })

-- the traces that texts spell, from this thread on
record AreRead (format epochs thread : ℕ) (contents : List (List ℕ)) (traces : List LocalTraceForm) : Type 0 where
  count : length traces ≡ length contents
  numbered : AreNumbered epochs thread traces
  rules : AllByRecursion IsLocalTrace traces
  belong : AllByRecursion (λ (trace : LocalTraceForm). AreOfFormat format (in_order trace.segments)) traces

traces_read : TracesFit → (format epochs thread : ℕ) (contents : List (List ℕ)) (traces : List LocalTraceForm) → 1 ≤ epochs
    → AllByRecursion (λ (bytes : List ℕ). length bytes ≤ 2097152) contents → traces_from format (epochs - 1) thread contents ≡ Ok traces
    → AreRead format epochs thread contents traces
traces_read fit format epochs thread [] traces some short e =
    let none : [] ≡ traces = (cc) in
    subst (AreRead format epochs thread []) none (record { count = refl; numbered = tt; rules = tt; belong = tt })
traces_read fit format epochs thread (bytes ∷ contents) traces some short e =
    let parts = parts_gave (trace_or_fault thread (trace_of format thread (epochs - 1) bytes)) (traces_from format (epochs - 1) (thread + 1) contents) traces e in
    let trace : LocalTraceForm = parts.0 in
    let is : IsTraceOf format thread (epochs - 1) trace =
    fit format thread (epochs - 1) bytes trace (omega (arith, short.0)) (trace_was thread (trace_of format thread (epochs - 1) bytes) trace parts.2) in
    let later = traces_read fit format epochs (thread + 1) contents parts.1 some short.1 parts.3 in
    let size : length trace.segments ≡ epochs = omega (arith, is.whole, some) in
    subst (AreRead format epochs thread (bytes ∷ contents)) (sym parts.4) (record {
      count = ap suc later.count;
      numbered = (is.numbered, size, later.numbered);
      rules = (is.formed, later.rules);
      belong = (is.belongs, later.belong);
    })

-- the checks of a recording have passed
record HasPassed (m : ManifestForm) (traces : List LocalTraceForm) (r : RecordingForm) : Type 0 where
  same : record { manifest = m; traces = traces } ≡ r
  starts : is_ok (after_traces m.threads m.roots [] traces) ≡ true
  holders : after_marks m.epochs traces ≡ Ok tt

checks_passed : (m : ManifestForm) (traces : List LocalTraceForm) (r : RecordingForm) → checked m traces ≡ Ok r → HasPassed m traces r
checks_passed m traces r e =
    let whole : RecordingForm = record { manifest = m; traces = traces } in
    let due : Result RecordingForm RecordingFault = Ok whole in
    let walked = gave (after_traces m.threads m.roots [] traces) (λ started. and_then (after_marks m.epochs traces) (λ u. due)) r e in
    let marked = gave (after_marks m.epochs traces) (λ u. due) r walked.2 in
    let last : ◌≡◌ {A = Result RecordingForm RecordingFault} (Ok whole) (Ok r) = marked.2 in
    record { same = (cc); starts = ap is_ok walked.1; holders = marked.1 }

pub was_read : ManifestsAreSpelled → TracesFit → WhatIsReadCanBeSpelled
was_read spelled fit files directory r e =
    let manifest = gave (manifest_at files directory)
    (λ m. and_then (or_refused from_content (contents_from files directory 1 m.threads)) (λ contents. recording_with m contents)) r e in
    let m : ManifestForm = manifest.0 in
    let bytes = gave (or_refused from_content (content_of files directory Manifest)) (λ text. manifest_or_fault (manifest_of_text text)) m manifest.1 in
    let kept = manifest_fits spelled (end_line_of bytes.0) (lines_of bytes.0) m (manifest_was (manifest_of_text bytes.0) m bytes.2) in
    let contents = gave (or_refused from_content (contents_from files directory 1 m.threads)) (λ texts. recording_with m texts) r manifest.2 in
    let texts = texts_read files directory 1 m.threads contents.0 (not_refused from_content (contents_from files directory 1 m.threads) contents.0 contents.1) in
    let traces = gave (traces_from m.format (m.epochs - 1) 1 contents.0) (λ read. checked m read) r contents.2 in
    let read = traces_read fit m.format m.epochs 1 contents.0 traces.0 kept.0.epochs.0 texts.fit traces.1 in
    let passed = checks_passed m traces.0 r traces.2 in
    subst CanBeSpelled passed.same (record {
      rules = record {
        manifest = kept.0;
        count = read.count ∙ texts.count;
        numbered = read.numbered;
        traces = All-from_recursion IsLocalTrace traces.0 read.rules;
        starts = passed.starts;
        holders = passed.holders;
      };
      values = kept.1;
      format = All-from_recursion (λ (trace : LocalTraceForm). AreOfFormat m.format (in_order trace.segments)) traces.0 read.belong;
    })
