use Rattle.std.proofs.Common.{◌≡◌, ◌++◌, ◌∷◌, List, ℕ, OnOk, subst}
use Rattle.gp_place.specs.declared.beside.Beside.{Beside}
use Rattle.gp_text.specs.Spelling.{spelling}
use Rattle.gp_view.specs.Answered.{AnsweredForm, form_of}
use Rattle.gp_view.specs.Text.{answer_lines, answered_lines, event_lines, sighting_lines, title_words}
use Rattle.gp_view.proofs.Put.{lines_put}
use Rattle.gp_view.proofs.text.put_answered.Goals as goal

pub returns : goal.returns
returns c =
    let answered : AnsweredForm = form_of c.args.answered.now in
    let beside : Beside = c.args.beside.now in
    let head : List (List (List ℕ)) = title_words answered ∷ (event_lines beside.places answered ++ sighting_lines beside.sightings answered) in
    let answer : List (List (List ℕ)) = answer_lines beside.places answered answered.entry.answer in
    let whole : c.put_head.new.text.items ++ spelling answer ≡ c.args.text.now.items ++ spelling (answered_lines beside answered) =
    rw (c.in_ok-put_head.ensures, c.in_ok-end_line.ensures) (lines_put c.args.text.now.items head answer) in
    subst (λ (text : List ℕ). OnOk c.put_answer.result (c.put_answer.new.text.items ≡ text)) whole c.put_answer.ensures
