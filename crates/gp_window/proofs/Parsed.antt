-- What reading each text gave, one after another, is what the texts spell.
use Rattle.std.proofs.Common.{◌≡◌, ◌≢◌, refl, ℕ, suc, ◌+◌, ◌≤◌, ◌<◌, List, [], ◌∷◌, length, sym, ◌∙◌, ap, arith}
use Rattle.std.specs.Prelude.{All, IfOk, Result, Ok, Err, slice_index_or}
use Rattle.std.proofs.lemmas.List.Elements.{All-cons, All-head, All-nil, All-tail}
use Rattle.gp_trace.specs.declared.fault.TraceFault.{TraceFault}
use Rattle.gp_trace.specs.declared.fault.TraceFault.TheVariants as of_trace
use Rattle.gp_trace.specs.Trace.{IsLocalTrace, LocalTraceForm}
use Rattle.gp_trace.specs.Walk.{IsTraceOf, TracesFit, trace_of}
use Rattle.gp_window.specs.declared.fault.RecordingFault.{RecordingFault}
use Rattle.gp_window.specs.declared.fault.RecordingFault.TheVariants as fault
use Rattle.gp_window.specs.Parsed.{AreTraces, IsRead, gathered}
use Rattle.gp_window.specs.Recording.{trace_or_fault, traces_from}
use Rattle.gp_base.specs.Results.{then_rest}

-- a trace that was read, and the rest
ok_step : (trace : LocalTraceForm) (rest due : Result (List LocalTraceForm) RecordingFault) → (rest ≢ Err fault.Memory → rest ≡ due)
    → then_rest (Ok trace) rest ≢ Err fault.Memory → then_rest (Ok trace) rest ≡ then_rest (Ok trace) due
ok_step trace (Ok rest) due same other = ap (then_rest (Ok trace)) (same (λ memory. (cc)))
ok_step trace (Err cause) due same other = ap (then_rest (Ok trace)) (same (λ memory. other memory))

-- one text more
one_text : (format marks thread : ℕ) (bytes : List ℕ) (read : Result LocalTraceForm TraceFault) (rest due : Result (List LocalTraceForm) RecordingFault)
    → IsRead format marks thread bytes read → (rest ≢ Err fault.Memory → rest ≡ due)
    → then_rest (trace_or_fault thread read) rest ≢ Err fault.Memory
    → then_rest (trace_or_fault thread read) rest ≡ then_rest (trace_or_fault thread (trace_of format thread marks bytes)) due
one_text format marks thread bytes (Ok trace) rest due is same other =
    ok_step trace rest due same other
    ∙ ap (λ read. then_rest (trace_or_fault thread read) due) (is (λ memory. (cc)))
one_text format marks thread bytes (Err of_trace.Memory) rest due is same other = absurd (other refl)
one_text format marks thread bytes (Err (of_trace.Text text)) rest due is same other =
    ap (λ read. then_rest (trace_or_fault thread read) due) (is (λ memory. (cc)))
one_text format marks thread bytes (Err (of_trace.AfterExit line)) rest due is same other =
    ap (λ read. then_rest (trace_or_fault thread read) due) (is (λ memory. (cc)))
one_text format marks thread bytes (Err (of_trace.BadWord line)) rest due is same other =
    ap (λ read. then_rest (trace_or_fault thread read) due) (is (λ memory. (cc)))
one_text format marks thread bytes (Err (of_trace.NameSelf line)) rest due is same other =
    ap (λ read. then_rest (trace_or_fault thread read) due) (is (λ memory. (cc)))
one_text format marks thread bytes (Err (of_trace.ReleaseUnheld line)) rest due is same other =
    ap (λ read. then_rest (trace_or_fault thread read) due) (is (λ memory. (cc)))
one_text format marks thread bytes (Err (of_trace.AcquireHeld line)) rest due is same other =
    ap (λ read. then_rest (trace_or_fault thread read) due) (is (λ memory. (cc)))
one_text format marks thread bytes (Err (of_trace.RegionUnmatched line)) rest due is same other =
    ap (λ read. then_rest (trace_or_fault thread read) due) (is (λ memory. (cc)))
one_text format marks thread bytes (Err (of_trace.MarkCount line)) rest due is same other =
    ap (λ read. then_rest (trace_or_fault thread read) due) (is (λ memory. (cc)))

-- what was gathered is what the texts spell
pub gathered_due : (format marks thread : ℕ) (contents : List (List ℕ)) (read : List (Result LocalTraceForm TraceFault)) → length read ≡ length contents
    → ((i : ℕ) (d : Result LocalTraceForm TraceFault) → i < length contents → IsRead format marks (i + thread) (slice_index_or contents i []) (slice_index_or read i d))
    → gathered thread read ≢ Err fault.Memory → gathered thread read ≡ traces_from format marks thread contents
gathered_due format marks thread [] [] same each other = refl
gathered_due format marks thread [] (one ∷ read) same each other = absurd (omega (arith, same))
gathered_due format marks thread (bytes ∷ contents) [] same each other = absurd (omega (arith, same))
gathered_due format marks thread (bytes ∷ contents) (one ∷ read) same each other =
    let here : 0 + thread ≡ thread = omega arith in
    one_text format marks thread bytes one (gathered (thread + 1) read) (traces_from format marks (thread + 1) contents)
    (rw (← here) (each 0 one (omega arith)))
    (gathered_due format marks (thread + 1) contents read (omega (arith, same))
    (λ i d below. let next : i + (thread + 1) ≡ suc i + thread = omega arith in rw next (each (suc i) d (omega arith))))
    other

first_trace : (format epochs marks thread : ℕ) → epochs ≡ marks + 1 → (bytes : List ℕ) (contents : List (List ℕ)) (traces : List LocalTraceForm)
    (first : Result LocalTraceForm TraceFault) (rest : Result (List LocalTraceForm) RecordingFault)
    → ((trace : LocalTraceForm) → first ≡ Ok trace → IsTraceOf format thread marks trace)
    → ((more : List LocalTraceForm) → rest ≡ Ok more → AreTraces epochs (thread + 1) contents more)
    → then_rest (trace_or_fault thread first) rest ≡ Ok traces → AreTraces epochs thread (bytes ∷ contents) traces
first_trace format epochs marks thread whole bytes contents traces (Ok trace) (Ok more) fits follow is =
    let same : trace ∷ more ≡ traces = (cc) in
    let one : IsTraceOf format thread marks trace = fits trace refl in
    let others : AreTraces epochs (thread + 1) contents more = follow more refl in
    rw (← same) (record { count = omega (arith, others.count); numbered = (one.numbered, one.whole ∙ sym whole, others.numbered); formed = All-cons IsLocalTrace trace more one.formed others.formed })
first_trace format epochs marks thread whole bytes contents traces (Ok trace) (Err cause) fits follow is = absurd (cc)
first_trace format epochs marks thread whole bytes contents traces (Err cause) rest fits follow is = absurd (cc)

-- the traces that texts spell are those of the threads in turn
pub traces_are : TracesFit → (format epochs marks thread : ℕ) → epochs ≡ marks + 1 → (contents : List (List ℕ)) (traces : List LocalTraceForm)
    → All (λ bytes. length bytes ≤ 2097152) contents → traces_from format marks thread contents ≡ Ok traces → AreTraces epochs thread contents traces
traces_are fit format epochs marks thread whole [] traces short is =
    let same : [] ≡ traces = (cc) in
    rw (← same) (record { count = refl; numbered = tt; formed = All-nil IsLocalTrace })
traces_are fit format epochs marks thread whole (bytes ∷ contents) traces short is =
    first_trace format epochs marks thread whole bytes contents traces (trace_of format thread marks bytes) (traces_from format marks (thread + 1) contents)
    (λ trace spelt. let few : length bytes ≤ 2097152 = All-head (λ bytes. length bytes ≤ 2097152) bytes contents short in fit format thread marks bytes trace (omega arith) spelt)
    (λ more spelt. traces_are fit format epochs marks (thread + 1) whole contents more (All-tail (λ bytes. length bytes ≤ 2097152) bytes contents short) spelt)
    is

-- what was read is one trace for each text
pub traces_read : TracesFit → (format epochs marks : ℕ) → epochs ≡ marks + 1 → (contents : List (List ℕ)) (read : Result (List LocalTraceForm) RecordingFault)
    → All (λ bytes. length bytes ≤ 2097152) contents → (read ≢ Err fault.Memory → read ≡ traces_from format marks 1 contents)
    → IfOk read (AreTraces epochs 1 contents)
traces_read fit format epochs marks whole contents (Ok traces) short is = traces_are fit format epochs marks 1 whole contents traces short (sym (is (λ memory. (cc))))
traces_read fit format epochs marks whole contents (Err cause) short is = tt
