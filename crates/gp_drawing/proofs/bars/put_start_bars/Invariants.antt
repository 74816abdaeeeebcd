use Rattle.std.proofs.Common.{◌≡◌, ◌++◌}
use Rattle.std.specs.List.{flat_map}
use Rattle.gp_window.specs.WindowForm.{held_at_start}
use Rattle.gp_drawing.specs.Bars.{start_bar}
use Rattle.gp_drawing.proofs.bars.put_start_bars.Given as goal

abbrev pub invariant-loop-place : goal.invariant-loop-place
invariant-loop-place l = l.bars ++ flat_map (start_bar l.window l.placed) l.place-iterator ≡ l.initial.bars ++ flat_map (start_bar l.window l.placed) (held_at_start l.window)
