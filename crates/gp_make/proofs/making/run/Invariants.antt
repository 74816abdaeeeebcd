use Rattle.std.proofs.Common.{◌≡◌, ◌≤◌, ◌-◌, ◌++◌, flat_map, min}
use Rattle.std.specs.List.{range_with_len}
use Rattle.gp_text.specs.Spelling.{spelling}
use Rattle.gp_make.specs.Traces.{TracesGrow}
use Rattle.gp_make.specs.Run.{events_before, program_after, start_values, windows_of}
use Rattle.gp_make.specs.Texts.{start_lines}
use Rattle.gp_make.proofs.Runs.{lines_through}
use Rattle.gp_make.proofs.making.run.Given as goal

abbrev pub invariant-loop-window : goal.invariant-loop-window
invariant-loop-window l = record {
  within : l.window - 2 ≤ windows_of l.recipe.events - 1;
  begun : l.program ≡ program_after l.recipe (min (events_before l.window) l.recipe.events);
  before : l.before ≡ start_values l.recipe (l.window - 1);
  told : l.manifest.items ≡ l.initial.manifest.items ++ spelling (flat_map (start_lines l.recipe) (range_with_len 2 (l.window - 2)));
  put : TracesGrow l.fn.traces l.traces (lines_through l.recipe (l.window - 2));
}
