use Rattle.std.proofs.Common.{◌≡◌, ◌++◌, map}
use Rattle.std.specs.Slice.Iter.{chunks_rest, chunks_size}
use Rattle.gp_text.specs.Spelling.{spelling}
use Rattle.gp_writer.specs.Lines.{in_lines}
use Rattle.gp_writer.proofs.lines.put_list.Given as goal

abbrev pub invariant-loop-line : goal.invariant-loop-line
invariant-loop-line g l =
    (chunks_size l.line-iterator ≡ 100)
    × (l.text.items ++ spelling (in_lines (map g.W.Spelled.word (chunks_rest l.line-iterator))) ≡ l.initial.text.items ++ spelling (in_lines (map g.W.Spelled.word l.words)))
