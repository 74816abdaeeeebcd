-- Nothing of what is told of an instance is read as markup.
use Rattle.std.proofs.Common.{ℕ, refl, List, ◌++◌, length}
use Rattle.std.specs.Prelude.{codes, decimal, filter, flat_map, nat_lt}
use Rattle.gp_drawing.specs.Drawing.{drawing_of}
use Rattle.gp_drawing.specs.Markup.{DrawingsHaveOwnMarkup, HasOwnMarkup}
use Rattle.gp_drawing.specs.MarkupLaws.{markup_after, markup_append, markup_before, markup_between, markup_by_test, markup_decimal, markup_either, markup_flat_map, markup_words}
use Rattle.gp_drawing.specs.Svg.{svg}
use Rattle.gp_drawing.specs.declared.drawing.Drawing.{Drawing}
use Rattle.gp_place.specs.Places.{named}
use Rattle.gp_place.specs.declared.beside.Beside.{Beside}
use Rattle.gp_place.specs.declared.beside.Sighting.{Sighting}
use Rattle.gp_place.specs.declared.places.Places.{Places}
use Rattle.gp_reason.specs.declared.reasons.Reason.{Reason}
use Rattle.gp_report.specs.declared.record.AnswerOf.TheVariants.{Found, Impossible, Undecided}
use Rattle.gp_report.specs.Records.{Answer}
use Rattle.gp_tell.specs.ReasonText.{reason_lines}
use Rattle.gp_text.specs.Spelling.{joined, spelling}
use Rattle.gp_window.specs.WindowForm.{WindowForm}
use Rattle.gp_window.specs.declared.schedule.EventId.{EventId}
use Rattle.gp_view.specs.Answered.{AnsweredForm}
use Rattle.gp_view.specs.Page.{answer_part, answered_part, event_item, events_part, fold_head, folded, reason_text, sighting_part, sightings_part, spent_part, title_part}
use Rattle.gp_view.specs.Text.{event_line, is_of, reason_in, sighting_line, spent_line, story_in, title_words}

title_own : (answered : AnsweredForm) → HasOwnMarkup (title_part answered)
unfolding title_part
title_own answered = markup_words (codes "<h2>") (joined (title_words answered)) (codes "</h2>\n") refl refl

item_own : (places : Places) (window : WindowForm) (id : EventId) → HasOwnMarkup (event_item places window id)
unfolding event_item
item_own places window id = markup_words (codes "<li>") (joined (event_line places window id)) (codes "</li>\n") refl refl

events_own : (places : Places) (answered : AnsweredForm) → HasOwnMarkup (events_part places answered)
unfolding events_part
events_own places answered =
    markup_between (codes "<ul>\n") (flat_map (event_item places answered.window) answered.entry.events) (codes "</ul>\n") refl
    (markup_flat_map (event_item places answered.window) answered.entry.events (item_own places answered.window)) refl

head_own : (count : ℕ) (what : List ℕ) → HasOwnMarkup what → HasOwnMarkup (fold_head count what)
unfolding fold_head
head_own count what own =
    let counted : List ℕ = codes "<details><summary>" ++ decimal count in
    let counted_own : HasOwnMarkup counted = markup_after (codes "<details><summary>") (decimal count) refl (markup_decimal count) in
    markup_before (counted ++ codes " " ++ what) (codes "</summary>\n") (markup_append (counted ++ codes " ") what (markup_before counted (codes " ") counted_own refl) own) refl

folded_own : (count : ℕ) (what part : List ℕ) → HasOwnMarkup what → HasOwnMarkup part → HasOwnMarkup (folded count what part)
folded_own count what part own part_own =
    markup_either (nat_lt 60 count) (fold_head count what ++ part ++ codes "</details>\n") part
    (markup_before (fold_head count what ++ part) (codes "</details>\n") (markup_append (fold_head count what) part (head_own count what own) part_own) refl)
    part_own

reason_own : (places : Places) (window : ℕ) (reason : Reason) → HasOwnMarkup (reason_text places window reason)
unfolding reason_text
reason_own places window reason = markup_words (codes "<pre>") (spelling (reason_lines (named places window) reason)) (codes "</pre>\n") refl refl

sighting_own : (sighting : Sighting) → HasOwnMarkup (sighting_part sighting)
unfolding sighting_part
sighting_own sighting = markup_words (codes "<p>") (joined (sighting_line sighting)) (codes "</p>\n") refl refl

spent_own : (from to : ℕ) → HasOwnMarkup (spent_part from to)
unfolding spent_part
spent_own from to = markup_words (codes "<p>") (joined (spent_line from to)) (codes "</p>\n") refl refl

answer_own : DrawingsHaveOwnMarkup → (places : Places) (answered : AnsweredForm) (answer : Answer) → HasOwnMarkup (answer_part places answered answer)
answer_own drawings places answered (Found schedule) =
    let drawing : Drawing = drawing_of answered.window (story_in answered schedule.events) in
    folded_own (length drawing.rows) (codes "rows") (svg places answered.window drawing) (markup_by_test (codes "rows") refl) (drawings.drawing places answered.window drawing)
answer_own drawings places answered (Impossible certificate) =
    let reason : Reason = reason_in answered certificate in
    folded_own (length reason.steps) (codes "steps") (reason_text places answered.window.number reason) (markup_by_test (codes "steps") refl) (reason_own places answered.window.number reason)
answer_own drawings places answered (Undecided worker from to) = spent_own from to

pub answered_own : DrawingsHaveOwnMarkup → (beside : Beside) (answered : AnsweredForm) → HasOwnMarkup (answered_part beside answered)
unfolding answered_part
answered_own drawings beside answered =
    let title : List ℕ = codes "<section>\n" ++ title_part answered in
    let events : List ℕ = title ++ events_part beside.places answered in
    let sightings : List ℕ = events ++ sightings_part beside.sightings answered in
    let answer : List ℕ = answer_part beside.places answered answered.entry.answer in
    let title_told : HasOwnMarkup title = markup_after (codes "<section>\n") (title_part answered) refl (title_own answered) in
    let events_told : HasOwnMarkup events = markup_append title (events_part beside.places answered) title_told (events_own beside.places answered) in
    let sightings_told : HasOwnMarkup sightings =
    markup_append events (sightings_part beside.sightings answered) events_told (markup_flat_map sighting_part (filter (is_of answered) beside.sightings) sighting_own) in
    markup_before (sightings ++ answer) (codes "</section>\n")
    (markup_append sightings answer sightings_told (answer_own drawings beside.places answered answered.entry.answer)) refl
