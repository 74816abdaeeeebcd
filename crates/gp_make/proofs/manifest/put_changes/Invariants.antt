use Rattle.std.proofs.Common.{◌≡◌, ◌++◌}
use Rattle.std.specs.List.{flat_map, range_with_len}
use Rattle.gp_text.specs.Spelling.{spelling}
use Rattle.gp_make.specs.Texts.{change_of}
use Rattle.gp_make.proofs.manifest.put_changes.Given as goal

abbrev pub invariant-loop-variable : goal.invariant-loop-variable
invariant-loop-variable l =
    l.text.items ≡ l.initial.text.items ++ spelling (flat_map (change_of l.window l.before l.values) (range_with_len 0 l.variable))
