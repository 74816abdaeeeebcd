use Rattle.std.proofs.Common.{◌≡◌, ◌-◌, map}
use Rattle.std.specs.List.{range_with_len}
use Rattle.gp_make.specs.Traces.{TracesGrow, lines_of}
use Rattle.gp_make.specs.Run.{event_of, program_after}
use Rattle.gp_make.proofs.making.run_window.Given as goal

abbrev pub invariant-loop-number : goal.invariant-loop-number
invariant-loop-number l = record {
  begun : l.program ≡ program_after l.recipe l.number;
  put : TracesGrow l.initial.traces l.traces (λ thread. lines_of thread (map (event_of l.recipe) (range_with_len l.first (l.number - l.first))));
}
