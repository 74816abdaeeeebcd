use Rattle.std.proofs.Common.{◌≡◌, ◌++◌, codes, List, ℕ}
use Rattle.gp_place.specs.declared.beside.Beside.{Beside}
use Rattle.gp_view.specs.Answered.{AnsweredForm, form_of}
use Rattle.gp_view.specs.Page.{answer_part, answered_part, events_part, sightings_part, title_part}
use Rattle.gp_view.proofs.Put.{put_last, section_put}
use Rattle.gp_view.proofs.page.put_answered_part.Goals as goal

pub returns : goal.returns
unfolding answered_part
returns c =
    let text : List ℕ = c.args.text.now.items in
    let beside : Beside = c.args.beside.now in
    let answered : AnsweredForm = form_of c.args.answered.now in
    let events : List ℕ = events_part beside.places answered in
    let sightings : List ℕ = sightings_part beside.sightings answered in
    let answer : List ℕ = answer_part beside.places answered answered.entry.answer in
    let whole : c.put_answer_part.new.text.items ++ codes "</section>\n" ≡ text ++ answered_part beside answered =
    rw (c.in_ok-put_answer_part.ensures, c.in_ok-put_sighting_parts.ensures, c.as_slice.ensures, c.in_ok-put_events_part.ensures, c.in_ok-put_title_part.ensures, c.in_ok-extend_from_slice.ensures.items)
    (section_put text (codes "<section>\n") (title_part answered) events sightings answer (codes "</section>\n")) in
    put_last c.extend_from_slice-2.result c.extend_from_slice-2.new.self.items (c.put_answer_part.new.text.items ++ codes "</section>\n") c.put_answer_part.new.text.items
    (text ++ answered_part beside answered) whole c.extend_from_slice-2.ensures.items
