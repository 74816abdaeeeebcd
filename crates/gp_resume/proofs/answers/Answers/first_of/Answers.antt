use Rattle.std.proofs.Common.{◌≡◌, ◌∙◌, ap, sym, List, ◌++◌, ◌∷◌, [], Some, cond}
use Rattle.std.specs.Cmp.Lexicographic.{pointwise}
use Rattle.gp_report.specs.Records.{Entry}
use Rattle.gp_window.specs.Ids.{is_same}
use Rattle.gp_resume.specs.Old.{answer_in}
use Rattle.gp_resume.specs.Table.{answer_at, told_in}
use Rattle.gp_resume.proofs.Looked.{at_put, found_last, or_else}
use Rattle.gp_resume.proofs.Ordered.{events_ordered}
use Rattle.gp_resume.proofs.answers.Answers.first_of.Goals as goal

pub loop-entry-preserved : goal.loop-entry-preserved
loop-entry-preserved c = λ ids.
    let entry : Entry = c.in-Some.entry.now in
    let front : List Entry = c.in-Some.front.now in
    let key : c.in_ok-key.key.items ≡ entry.events = c.in_ok-key.ensures.items ∙ c.as_slice.ensures in
    let split : c.loop-entry.left.now ≡ front ++ entry ∷ [] = c.in-Some.ensures.cases.0 in
    ap (λ table. or_else (answer_in front ids) (answer_at (told_in table) ids)) c.in_ok-put.ensures.ok
    ∙ ap (or_else (answer_in front ids)) (at_put _ events_ordered c.loop-entry.table c.in_ok-key.key _ ids)
    ∙ ap (λ events. or_else (answer_in front ids) (cond (pointwise is_same ids events) (Some entry.answer) (answer_at (told_in c.loop-entry.table) ids))) key
    ∙ sym (found_last front entry ids (answer_at (told_in c.loop-entry.table) ids))
    ∙ ap (λ (entries : List Entry). or_else (answer_in entries ids) (answer_at (told_in c.loop-entry.table) ids)) (sym split)
    ∙ c.loop-entry.invariant ids
