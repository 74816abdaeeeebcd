use Rattle.std.proofs.Common.{◌≡◌, ◌+◌, ◌++◌, drop}
use Rattle.gp_text.specs.Spelling.{spelling}
use Rattle.gp_linked.specs.Printed.{answers_lines}
use Rattle.gp_linked.proofs.printing.put_answers.Given as goal

abbrev pub invariant-loop-place : goal.invariant-loop-place
invariant-loop-place l = l.text.items ++ spelling (answers_lines (l.place + 1) (drop l.place l.links)) ≡ l.initial.text.items ++ spelling (answers_lines 1 l.links)
