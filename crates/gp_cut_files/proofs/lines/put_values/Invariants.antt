use Rattle.std.proofs.Common.{◌≡◌, ◌++◌, drop, map}
use Rattle.gp_text.specs.Spelling.{spelling}
use Rattle.gp_window.specs.Grammar.{value_words}
use Rattle.gp_cut_files.proofs.lines.put_values.Given as goal

abbrev pub invariant-loop-value : goal.invariant-loop-value
invariant-loop-value l =
    l.text.items ++ spelling (map value_words (drop l.value-index l.values)) ≡ l.initial.text.items ++ spelling (map value_words l.values)
