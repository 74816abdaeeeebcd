-- What the texts of the traces spell, and the checks between them, say nothing of a file that is absent.
use Rattle.std.proofs.Common.{◌≡◌, ◌⊎◌, inl, inr, ap, ◌∙◌, sym, ℕ, ◌+◌, ◌-◌, List, [], ◌∷◌}
use Rattle.std.specs.Prelude.{Result, Ok, Err}
use Rattle.gp_base.specs.Results.{and_then, then_rest}
use Rattle.gp_trace.specs.declared.fault.TraceFault.{TraceFault}
use Rattle.gp_trace.specs.declared.fault.TraceFault.TheVariants as of_trace
use Rattle.gp_trace.specs.Trace.{LocalTraceForm}
use Rattle.gp_trace.specs.Walk.{trace_of}
use Rattle.gp_window.specs.declared.fault.RecordingFault.{RecordingFault}
use Rattle.gp_window.specs.declared.fault.RecordingFault.TheVariants as fault
use Rattle.gp_window.specs.declared.file_name.FileName.{FileName}
use Rattle.gp_window.specs.ManifestForm.{ManifestForm}
use Rattle.gp_window.specs.Marks.{after_marks}
use Rattle.gp_window.specs.Recording.{checked, recording_with, trace_or_fault, traces_from}
use Rattle.gp_window.specs.Starts.{after_traces}
use Rattle.gp_window.specs.StartsTold.{events_of}
use Rattle.gp_window.proofs.HeldRising.{over_rises}
use Rattle.gp_window.proofs.MarksTold.{first_told}
use Rattle.gp_window.proofs.StartsTold.{first_wrong, nothing_started, same_fault, traces_walked}

-- of two steps the first is refused, or the second
one_refused : {A B : Type 0} (first : Result A RecordingFault) (next : A → Result B RecordingFault) (refusal : RecordingFault) → and_then first next ≡ Err refusal
    → (first ≡ Err refusal) ⊎ ((value : A) × (next value ≡ Err refusal))
one_refused (Ok value) next refusal is = inr (value, is)
one_refused (Err other) next refusal is = inl (ap Err (same_fault other refusal is))

no_trace : (thread : ℕ) (read : Result LocalTraceForm TraceFault) (file : FileName) → trace_or_fault thread read ≡ Err (fault.Absent file) → ⊥
no_trace thread (Ok trace) file is = cc
no_trace thread (Err of_trace.Memory) file is = cc
no_trace thread (Err cause) file is = cc

no_traces : (format marks thread : ℕ) (contents : List (List ℕ)) (file : FileName) → traces_from format marks thread contents ≡ Err (fault.Absent file) → ⊥
no_traces format marks thread [] file is = cc
no_traces format marks thread (bytes ∷ contents) file is =
    by_cases (trace_or_fault thread (trace_of format thread marks bytes)) (traces_from format marks (thread + 1) contents)
    (no_trace thread (trace_of format thread marks bytes) file) (no_traces format marks (thread + 1) contents file) is
  where
    by_cases : (first : Result LocalTraceForm RecordingFault) (rest : Result (List LocalTraceForm) RecordingFault)
        → (first ≡ Err (fault.Absent file) → ⊥) → (rest ≡ Err (fault.Absent file) → ⊥) → then_rest first rest ≡ Err (fault.Absent file) → ⊥
    by_cases (Ok trace) (Ok traces) one others e = cc
    by_cases (Ok trace) (Err cause) one others e = others e
    by_cases (Err cause) rest one others e = one (ap Err (same_fault cause (fault.Absent file) e))

no_check : (manifest : ManifestForm) (traces : List LocalTraceForm) (file : FileName) → checked manifest traces ≡ Err (fault.Absent file) → ⊥
no_check manifest traces file is =
    elim (one_refused (after_traces manifest.threads manifest.roots [] traces) _ (fault.Absent file) is) [
      | inl starts ↦ (first_wrong manifest.threads manifest.roots [] [] (events_of traces) (fault.Absent file) nothing_started (sym (traces_walked manifest.threads manifest.roots [] traces) ∙ starts)).5
      | inr more ↦ elim (one_refused (after_marks manifest.epochs traces) _ (fault.Absent file) more.1) [
        | inl marks ↦ (let told = (first_told manifest.epochs traces (fault.Absent file) (over_rises traces) marks).2 in cc)
        | inr more' ↦ (let none = more'.1 in cc)
      ]
    ]

-- the recording of a manifest and the texts of the traces is refused for no absent file
pub no_file : (manifest : ManifestForm) (contents : List (List ℕ)) (file : FileName) → recording_with manifest contents ≡ Err (fault.Absent file) → ⊥
no_file manifest contents file is =
    elim (one_refused (traces_from manifest.format (manifest.epochs - 1) 1 contents) (λ traces. checked manifest traces) (fault.Absent file) is) [
      | inl traces ↦ no_traces manifest.format (manifest.epochs - 1) 1 contents file traces
      | inr more ↦ no_check manifest more.0 file more.1
    ]
