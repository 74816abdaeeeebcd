-- What a text spells is a trace of the thread, with these marks.
use Rattle.std.proofs.Common.{◌≡◌, refl, subst, ℕ, ◌-◌, ◌<◌, ◌^◌, ◌==◌, Bool, true, false, if◌then◌else◌, List, [], ◌∷◌, length, Result, Ok, Err, arith, eqb-true, length-append}
use Rattle.gp_text.specs.declared.line.Line.{Line}
use Rattle.gp_text.specs.declared.lines.TextFault.{TextFault}
use Rattle.gp_text.specs.Lines.{check_of_text, end_line_of, kept_lines_of}
use Rattle.gp_base.specs.Results.{and_then}
use Rattle.gp_trace.specs.declared.fault.TraceFault.{TraceFault}
use Rattle.gp_trace.specs.declared.walk.Walk.{Walk}
use Rattle.gp_trace.specs.Trace.{LocalTraceForm}
use Rattle.gp_trace.specs.Walk.{after_lines, at_end, at_start, IsTraceOf, trace_in, TracesFit}
use Rattle.gp_trace.proofs.Fits.{few_lines}
use Rattle.gp_trace.proofs.Reached.{a_trace, of_format, segments_of}

abbrev InOk : (format thread marks : ℕ) → Result LocalTraceForm TraceFault → Type 0
InOk format thread marks (Ok trace) = IsTraceOf format thread marks trace
InOk format thread marks (Err fault) = Unit {0}

at_last : (b : Bool) (format thread marks : ℕ) (fault : TraceFault) (lines : List Line) (walk : Walk) → (length walk.ended == marks) ≡ b → length lines < 2 ^ 32 → after_lines format thread marks at_start lines ≡ Ok walk
    → InOk format thread marks (if b then Ok (record { thread = thread; segments = segments_of walk; exit_in = walk.exit_in }) else Err fault)
at_last true format thread marks fault lines walk is few ok = record {
  formed = a_trace format thread marks lines walk few ok;
  numbered = refl;
  whole = omega (arith, eqb-true (length walk.ended) marks is, length-append walk.ended (walk.segment ∷ []));
  belongs = of_format format thread marks lines walk ok;
}
at_last false format thread marks fault lines walk is few ok = tt

after_walk : (format thread marks n : ℕ) (lines : List Line) (r : Result Walk TraceFault) → after_lines format thread marks at_start lines ≡ r → length lines < 2 ^ 32 → InOk format thread marks (at_end thread marks n r)
after_walk format thread marks n lines (Ok walk) ok few = at_last (length walk.ended == marks) format thread marks _ lines walk refl few ok
after_walk format thread marks n lines (Err fault) ok few = tt

-- what lines are read as is a trace of the thread
pub lines_fit : (format thread marks n : ℕ) (lines : List Line) (trace : LocalTraceForm) → length lines < 2 ^ 32 → trace_in format thread marks n (Ok lines) ≡ Ok trace → IsTraceOf format thread marks trace
lines_fit format thread marks n lines trace few ok =
    let P : Result LocalTraceForm TraceFault → Type 0 = InOk format thread marks in
    subst P ok (after_walk format thread marks n lines (after_lines format thread marks at_start lines) refl few)

checked : (format thread marks n : ℕ) (bytes : List ℕ) (r : Result (Unit {0}) TextFault) → length bytes < 2 ^ 32 - 1
    → InOk format thread marks (trace_in format thread marks n (and_then r (λ u. Ok (kept_lines_of bytes))))
checked format thread marks n bytes (Ok u) few =
    after_walk format thread marks n (kept_lines_of bytes) (after_lines format thread marks at_start (kept_lines_of bytes)) refl (few_lines bytes few)
checked format thread marks n bytes (Err fault) few = tt

pub traces_fit : TracesFit
traces_fit format thread marks bytes trace few ok =
    let P : Result LocalTraceForm TraceFault → Type 0 = InOk format thread marks in
    subst P ok (checked format thread marks (end_line_of bytes) bytes (check_of_text bytes) few)
