-- The lines of windows, one after another.
use Rattle.std.proofs.Common.{◌≡◌, ℕ, ◌+◌, ◌<◌, get_or, length, drop, List, ◌++◌, ap, ◌∙◌, sym}
use Rattle.gp_text.specs.Spelling.{spelling}
use Rattle.gp_writer.specs.LinesLaws.{cut, lines_put}
use Rattle.gp_linked.specs.declared.answer.LinkAnswer.{LinkAnswer}
use Rattle.gp_linked.specs.Printed.{answer_lines, answers_lines}

-- the lines of one window more, and then those of the windows that are left
pub one_answer : (text whole : List ℕ) (links : List LinkAnswer) (link : LinkAnswer) (i : ℕ)
    → i < length links → link ≡ get_or links i link
    → text ++ spelling (answers_lines (i + 1) (drop i links)) ≡ whole
    → (text ++ spelling (answer_lines (i + 1) link)) ++ spelling (answers_lines (i + 1 + 1) (drop (i + 1) links)) ≡ whole
one_answer text whole links link i below is all =
    lines_put text (answer_lines (i + 1) link) (answers_lines (i + 1 + 1) (drop (i + 1) links))
    ∙ ap (λ left. text ++ spelling (answers_lines (i + 1) left)) (sym (cut links link i below is))
    ∙ all
