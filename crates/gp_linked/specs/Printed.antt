-- The lines of words that tell which windows are linked.
use Rattle.std.specs.Prelude.{ℕ, ◌+◌, List, [], ◌∷◌, ◌++◌, length, map, codes, count_by, decimal, flat_map}
use Rattle.gp_window.specs.EventIds.{event_id_text}
use Rattle.gp_writer.specs.Lines.{in_lines}
use Rattle.gp_writer.specs.Steps.{step_lines}
use Rattle.gp_linked.specs.declared.answer.LinkAnswer.{LinkAnswer}
use Rattle.gp_linked.specs.declared.answer.LinkAnswer.TheVariants.{Linked, Unlinkable, Undecided, TooLarge}
use Rattle.gp_linked.specs.declared.answer.LinkReport.{LinkReport}
use Rattle.gp_linked.specs.Kinds.{is_linked, is_too_large, is_undecided, is_unlinkable}

-- what is told of the window of this number: a schedule, a certificate, the entries of a log that were learned in vain, or how
-- many events there are and clauses were counted
abbrev pub answer_lines : ℕ → LinkAnswer → List (List (List ℕ))
answer_lines k (Linked schedule) =
    (codes "linked" ∷ decimal k ∷ decimal (length schedule.events) ∷ []) ∷ in_lines (map event_id_text schedule.events)
answer_lines k (Unlinkable certificate) =
    (codes "unlinkable" ∷ decimal k ∷ decimal (length certificate.steps) ∷ []) ∷ flat_map step_lines certificate.steps
answer_lines k (Undecided log from to) = (codes "undecided" ∷ decimal k ∷ decimal from ∷ decimal to ∷ []) ∷ []
answer_lines k (TooLarge events clauses) = (codes "toolarge" ∷ decimal k ∷ decimal events ∷ decimal clauses ∷ []) ∷ []

-- the same of windows that are numbered from this number on
abbrev pub answers_lines : ℕ → List LinkAnswer → List (List (List ℕ))
answers_lines k [] = []
answers_lines k (answer ∷ answers) = answer_lines k answer ++ answers_lines (k + 1) answers

-- how many windows are linked, unlinkable, undecided and too large
abbrev pub summary_words : List LinkAnswer → List (List ℕ)
summary_words links =
    codes "summary" ∷ decimal (count_by is_linked links) ∷ decimal (count_by is_unlinkable links) ∷ decimal (count_by is_undecided links)
    ∷ decimal (count_by is_too_large links) ∷ []

-- the lines of a report
abbrev pub links_lines : LinkReport → List (List (List ℕ))
links_lines report =
    (codes "gplink" ∷ decimal 1 ∷ []) ∷ (codes "budget" ∷ decimal report.budget ∷ [])
    ∷ (answers_lines 1 report.links ++ summary_words report.links ∷ [])
