-- Lines that are read spell what they are read as, and lines that spell a trace are read as it.
use Rattle.std.proofs.Common.{◌≡◌, subst, ℕ, ◌-◌, ◌==◌, Bool, true, false, if◌then◌else◌, List, length, map, Result, Ok, Err, arith, refl}
use Rattle.gp_text.specs.Numbers.{OneSpelling}
use Rattle.gp_text.specs.Spelling.{numbered}
use Rattle.gp_text.specs.declared.line.Line.{Line}
use Rattle.gp_trace.specs.declared.fault.TraceFault.{TraceFault}
use Rattle.gp_trace.specs.declared.walk.Walk.{Walk}
use Rattle.gp_trace.specs.Grammar.{Spells, TracesAreSpelled}
use Rattle.gp_trace.specs.Printed.{segment_lines}
use Rattle.gp_trace.specs.Trace.{LocalTraceForm}
use Rattle.gp_trace.specs.Walk.{after_lines, at_end, at_start, trace_in}
use Rattle.gp_trace.proofs.Again.{lines_again}
use Rattle.gp_trace.proofs.Reached.{segments_of}
use Rattle.gp_trace.proofs.Renumbered.{renumbered}
use Rattle.gp_trace.proofs.Walked.{walk_said}
use Rattle.gp_trace.proofs.Whole.{lines_fit}
use Rattle.gp_trace.proofs.grammar.traces_are_spelled.Goals as goal

abbrev read_as : LocalTraceForm → Result LocalTraceForm TraceFault
read_as trace = Ok trace

trace_words : (b : Bool) (fault : TraceFault) (thread : ℕ) (words : List (List (List ℕ))) (walk : Walk) (trace : LocalTraceForm)
    → (if b then read_as (record { thread = thread; segments = segments_of walk; exit_in = walk.exit_in }) else Err fault) ≡ Ok trace
    → words ≡ segment_lines walk.exit_in (segments_of walk) → words ≡ segment_lines trace.exit_in trace.segments
trace_words true fault thread words walk trace ok said =
    let made : LocalTraceForm = record { thread = thread; segments = segments_of walk; exit_in = walk.exit_in } in
    let same : made ≡ trace = cc in
    let P : LocalTraceForm → Type 0 = λ t. words ≡ segment_lines t.exit_in t.segments in
    subst P same said
trace_words false fault thread words walk trace ok said = (cc)

read_words : OneSpelling → (format thread marks last : ℕ) (lines : List Line) (trace : LocalTraceForm) (r : Result Walk TraceFault) → after_lines format thread marks at_start lines ≡ r → at_end thread marks last r ≡ Ok trace
    → map (λ line. line.words) lines ≡ segment_lines trace.exit_in trace.segments
read_words spelled format thread marks last lines trace (Ok walk) is ok =
    trace_words (length walk.ended == marks) _ thread (map (λ line. line.words) lines) walk trace ok (walk_said spelled format thread marks lines walk is)
read_words spelled format thread marks last lines trace (Err fault) is ok = (cc)

back : OneSpelling → (format thread marks last : ℕ) (lines : List Line) (trace : LocalTraceForm) → Spells format thread marks lines trace → trace_in format thread marks last (Ok lines) ≡ Ok trace
back spelled format thread marks last lines trace spells =
    let fewer : length trace.segments - 1 ≡ marks = omega (arith, spells.kept.whole) in
    let P : ℕ → Type 0 = λ m. at_end trace.thread m last (after_lines format trace.thread m at_start (numbered 1 (segment_lines trace.exit_in trace.segments))) ≡ Ok trace in
    let Q : ℕ → Type 0 = λ t. at_end t marks last (after_lines format t marks at_start (numbered 1 (segment_lines trace.exit_in trace.segments))) ≡ Ok trace in
    renumbered format thread marks last trace at_start (segment_lines trace.exit_in trace.segments) lines spells.words
    (subst Q spells.kept.numbered (subst P fewer (lines_again spelled format last trace spells.kept.formed spells.kept.belongs)))

spelled_so : OneSpelling → TracesAreSpelled
spelled_so spelled format thread marks last lines trace few = (
  λ ok. record {
    words = read_words spelled format thread marks last lines trace (after_lines format thread marks at_start lines) refl ok;
    kept = lines_fit format thread marks last lines trace few ok;
  },
  λ spells. back spelled format thread marks last lines trace spells,
)

pub returns : goal.returns
returns c = spelled_so c.one_spelling.ensures
