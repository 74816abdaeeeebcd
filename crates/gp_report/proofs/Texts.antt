-- The lines of a report, one after another.
use Rattle.std.proofs.Common.{◌≡◌, ℕ, ◌+◌, ◌<◌, get_or, length, drop, List, [], ◌∷◌, ◌++◌, ap, ◌∙◌, sym}
use Rattle.gp_text.specs.Spelling.{spelling}
use Rattle.gp_writer.specs.LinesLaws.{cut, lines_put}
use Rattle.gp_report.specs.declared.record.EntryOf.{EntryOf}
use Rattle.gp_report.specs.Printed.{answer_lines_of, entries_lines_of, instance_words}

-- the lines of one entry more, and then those of the entries that are left
pub one_entry : {Shown : Type 0} (shown_lines : Shown → List (List (List ℕ))) (text whole : List ℕ) (entries : List (EntryOf Shown)) (entry : EntryOf Shown) (i : ℕ)
    → i < length entries → entry ≡ get_or entries i entry
    → text ++ spelling (entries_lines_of shown_lines i (drop i entries)) ≡ whole
    → (text ++ spelling (instance_words i entry ∷ answer_lines_of shown_lines entry.answer)) ++ spelling (entries_lines_of shown_lines (i + 1) (drop (i + 1) entries)) ≡ whole
one_entry shown_lines text whole entries entry i below is all =
    lines_put text (instance_words i entry ∷ answer_lines_of shown_lines entry.answer) (entries_lines_of shown_lines (i + 1) (drop (i + 1) entries))
    ∙ ap (λ left. text ++ spelling (entries_lines_of shown_lines i left)) (sym (cut entries entry i below is))
    ∙ all

-- the lines of a report: the first two, those of its windows, and the last one
pub report_put : (first second last : List (List ℕ)) (windows : List (List (List ℕ))) → ((spelling (first ∷ []) ++ spelling (second ∷ [])) ++ spelling windows) ++ spelling (last ∷ []) ≡ spelling (first ∷ second ∷ (windows ++ last ∷ []))
report_put first second last windows =
    ap (λ text. (text ++ spelling windows) ++ spelling (last ∷ [])) (lines_put [] (first ∷ []) (second ∷ []))
    ∙ ap (λ text. text ++ spelling (last ∷ [])) (lines_put [] (first ∷ second ∷ []) windows)
    ∙ lines_put [] (first ∷ second ∷ windows) (last ∷ [])
