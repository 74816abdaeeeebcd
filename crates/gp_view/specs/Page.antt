-- An instance of a report as a part of a page: what it is, its events as a list, what was seen of it, and then the drawing of its
-- schedule, or why it is impossible. What has more than 60 rows or steps is folded.
use Rattle.std.specs.Prelude.{ℕ, List, ◌++◌, codes, decimal, filter, flat_map, if◌then◌else◌, length, nat_lt}
use Rattle.gp_drawing.specs.Drawing.{drawing_of}
use Rattle.gp_drawing.specs.Escaped.{escaped}
use Rattle.gp_drawing.specs.Svg.{svg}
use Rattle.gp_drawing.specs.declared.drawing.Drawing.{Drawing}
use Rattle.gp_place.specs.Places.{named}
use Rattle.gp_place.specs.declared.beside.Beside.{Beside}
use Rattle.gp_place.specs.declared.beside.Sighting.{Sighting}
use Rattle.gp_place.specs.declared.places.Places.{Places}
use Rattle.gp_reason.specs.declared.reasons.Reason.{Reason}
use Rattle.gp_report.specs.declared.record.AnswerOf.TheVariants.{Found, Impossible, Undecided}
use Rattle.gp_report.specs.Records.{Answer}
use Rattle.gp_tell.specs.ReasonText.{reason_lines}
use Rattle.gp_text.specs.Spelling.{joined, spelling}
use Rattle.gp_window.specs.WindowForm.{WindowForm}
use Rattle.gp_window.specs.declared.schedule.EventId.{EventId}
use Rattle.gp_view.specs.Answered.{AnsweredForm}
use Rattle.gp_view.specs.Text.{event_line, is_of, reason_in, sighting_line, spent_line, story_in, title_words}

-- the heading of an instance
unfoldable pub title_part : AnsweredForm → List ℕ
title_part answered = codes "<h2>" ++ escaped (joined (title_words answered)) ++ codes "</h2>\n"

-- an event as an item of a list
unfoldable pub event_item : Places → WindowForm → EventId → List ℕ
event_item places window id = codes "<li>" ++ escaped (joined (event_line places window id)) ++ codes "</li>\n"

-- the events of an instance
unfoldable pub events_part : Places → AnsweredForm → List ℕ
events_part places answered = codes "<ul>\n" ++ flat_map (event_item places answered.window) answered.entry.events ++ codes "</ul>\n"

-- what was seen
unfoldable pub sighting_part : Sighting → List ℕ
sighting_part sighting = codes "<p>" ++ escaped (joined (sighting_line sighting)) ++ codes "</p>\n"

-- what was seen of an instance
abbrev pub sightings_part : List Sighting → AnsweredForm → List ℕ
sightings_part sightings answered = flat_map sighting_part (filter (is_of answered) sightings)

-- the head of a part that is folded, which says how much of what there is
unfoldable pub fold_head : ℕ → List ℕ → List ℕ
fold_head count what = codes "<details><summary>" ++ decimal count ++ codes " " ++ what ++ codes "</summary>\n"

-- a part that is folded where it has more than 60 of what it is of
abbrev pub folded : ℕ → List ℕ → List ℕ → List ℕ
folded count what part = if nat_lt 60 count then fold_head count what ++ part ++ codes "</details>\n" else part

-- a drawing
abbrev pub drawing_part : Places → WindowForm → Drawing → List ℕ
drawing_part places window drawing = folded (length drawing.rows) (codes "rows") (svg places window drawing)

-- the text of a reason of the window of this number
unfoldable pub reason_text : Places → ℕ → Reason → List ℕ
reason_text places window reason = codes "<pre>" ++ escaped (spelling (reason_lines (named places window) reason)) ++ codes "</pre>\n"

-- a reason
abbrev pub reason_part : Places → ℕ → Reason → List ℕ
reason_part places window reason = folded (length reason.steps) (codes "steps") (reason_text places window reason)

-- that the budget was spent
unfoldable pub spent_part : ℕ → ℕ → List ℕ
spent_part from to = codes "<p>" ++ escaped (joined (spent_line from to)) ++ codes "</p>\n"

-- what shows the answer
abbrev pub answer_part : Places → AnsweredForm → Answer → List ℕ
answer_part places answered (Found schedule) = drawing_part places answered.window (drawing_of answered.window (story_in answered schedule.events))
answer_part places answered (Impossible certificate) = reason_part places answered.window.number (reason_in answered certificate)
answer_part places answered (Undecided worker from to) = spent_part from to

-- an instance
unfoldable pub answered_part : Beside → AnsweredForm → List ℕ
answered_part beside answered =
    codes "<section>\n" ++ title_part answered ++ events_part beside.places answered ++ sightings_part beside.sightings answered
    ++ answer_part beside.places answered answered.entry.answer ++ codes "</section>\n"
