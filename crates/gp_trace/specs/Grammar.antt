-- Which lines spell which trace, and that this is what the reader reads.
use Rattle.std.specs.Prelude.{◌≡◌, ◌↔◌, ◌<◌, ◌^◌, ℕ, List, length, map, Ok}
use Rattle.gp_text.specs.declared.line.Line.{Line}
use Rattle.gp_trace.specs.Printed.{segment_lines}
use Rattle.gp_trace.specs.Trace.{LocalTraceForm}
use Rattle.gp_trace.specs.Walk.{IsTraceOf, trace_in}

-- the lines spell this trace: their words are, line by line, those of its events, marks and exit, and
-- it is a trace of the thread, with so many marks, in this format
pub record Spells (format thread marks : ℕ) (lines : List Line) (trace : LocalTraceForm) : Type 0 where
  pub words : map (λ line. line.words) lines ≡ segment_lines trace.exit_in trace.segments
  pub kept : IsTraceOf format thread marks trace

-- lines are read as a trace exactly where they spell it, whatever the line is at which their text ends
abbrev pub TracesAreSpelled : Type 0
TracesAreSpelled = (format thread marks last : ℕ) (lines : List Line) (trace : LocalTraceForm) → length lines < 2 ^ 32
    → (trace_in format thread marks last (Ok lines) ≡ Ok trace) ↔ Spells format thread marks lines trace
