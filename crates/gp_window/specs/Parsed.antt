-- Results of reading traces, one for each text.
use Rattle.std.specs.Prelude.{ℕ, ◌≡◌, ◌≢◌, ◌+◌, All, List, [], ◌∷◌, length, Result, Ok, Err}
use Rattle.gp_trace.specs.declared.fault.TraceFault.{TraceFault}
use Rattle.gp_trace.specs.declared.fault.TraceFault.TheVariants.{Memory}
use Rattle.gp_trace.specs.Trace.{IsLocalTrace, LocalTraceForm}
use Rattle.gp_trace.specs.Walk.{trace_of}
use Rattle.gp_window.specs.declared.fault.RecordingFault.{RecordingFault}
use Rattle.gp_window.specs.Recording.{trace_or_fault}
use Rattle.gp_window.specs.RecordingForm.{AreNumbered}
use Rattle.gp_base.specs.Results.{then_rest}

-- what reading a thread's trace gave: what the text spells, or want of memory
abbrev pub IsRead : ℕ → ℕ → ℕ → List ℕ → Result LocalTraceForm TraceFault → Type 0
IsRead format marks thread bytes read = read ≢ Err Memory → read ≡ trace_of format thread marks bytes

-- the traces that were read, from this thread on, or the first fault
abbrev pub gathered : ℕ → List (Result LocalTraceForm TraceFault) → Result (List LocalTraceForm) RecordingFault
gathered thread [] = Ok []
gathered thread (read ∷ more) = then_rest (trace_or_fault thread read) (gathered (thread + 1) more)

-- one trace for each text, of the threads from this number on, with a segment for each epoch
pub record AreTraces (epochs thread : ℕ) (contents : List (List ℕ)) (traces : List LocalTraceForm) : Type 0 where
  pub count : length traces ≡ length contents
  pub numbered : AreNumbered epochs thread traces
  pub formed : All IsLocalTrace traces
