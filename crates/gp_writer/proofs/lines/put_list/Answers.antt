use Rattle.std.proofs.Common.{◌++◌, ◌∙◌, map}
use Rattle.std.specs.Slice.Iter.{chunks_rest}
use Rattle.gp_text.specs.Spelling.{spelling}
use Rattle.gp_writer.specs.Lines.{in_lines}
use Rattle.gp_writer.proofs.LineByLine.{one_line}
use Rattle.gp_writer.proofs.lines.put_list.Goals as goal

pub loop-line-preserved : goal.loop-line-preserved
loop-line-preserved g c =
    let word = g.W.Spelled.word in
    let whole = c.args.text.now.items ++ spelling (in_lines (map word c.args.words.now)) in
    let step = c.in-Some.ensures.steps in (
      step.0 ∙ c.loop-line.invariant.0,
      rw (c.in_ok-end_line.ensures, c.in_ok-put_joined.ensures)
          (one_line word c.loop-line.text.items whole (chunks_rest c.loop-line.line-iterator) c.in-Some.line.now (chunks_rest c.next.new.self) step.1.0 (rw c.loop-line.invariant.0 at step.1.1) step.1.2 c.loop-line.invariant.1),
    )
