-- An instance of a report as text: what it is, its events, what was seen of it, and then the story of its schedule, or why it is
-- impossible. Each event has its place behind it where that is told. A line is a list of phrases, and a space stands between two of them.
use Rattle.std.specs.Prelude.{ℕ, ◌-◌, Bool, ◌==◌, ◌&&◌, List, [], ◌∷◌, ◌++◌, Option, Some, None, codes, decimal, filter, map}
use Rattle.std.specs.Str.{bytes_eq}
use Rattle.gp_certificate.specs.declared.certificate.Certificate.{Certificate}
use Rattle.gp_place.specs.Places.{behind, named}
use Rattle.gp_place.specs.declared.beside.Beside.{Beside}
use Rattle.gp_place.specs.declared.beside.Sighting.{Sighting}
use Rattle.gp_place.specs.declared.places.Places.{Places}
use Rattle.gp_reason.specs.Reasons.{reason_of}
use Rattle.gp_reason.specs.declared.reasons.Reason.{Reason}
use Rattle.gp_report.specs.declared.record.AnswerOf.TheVariants.{Found, Impossible, Undecided}
use Rattle.gp_report.specs.Records.{Answer}
use Rattle.gp_story.specs.Parts.{story_of}
use Rattle.gp_story.specs.declared.story.Story.{Story}
use Rattle.gp_tell.specs.ReasonText.{reason_lines}
use Rattle.gp_tell.specs.StoryText.{story_lines}
use Rattle.gp_trace.specs.Printed.{event_words}
use Rattle.gp_trace.specs.declared.event.Event.{Event}
use Rattle.gp_window.specs.EventIds.{event_id_text}
use Rattle.gp_window.specs.Events.{event_at}
use Rattle.gp_window.specs.WindowForm.{WindowForm}
use Rattle.gp_window.specs.declared.schedule.EventId.{EventId}
use Rattle.gp_view.specs.Answered.{AnsweredForm}

-- what an answer is
abbrev pub answer_word : Answer → List ℕ
answer_word (Found schedule) = codes "found"
answer_word (Impossible certificate) = codes "impossible"
answer_word (Undecided worker from to) = codes "undecided"

-- what an instance is
abbrev pub title_words : AnsweredForm → List (List ℕ)
title_words answered =
    codes "window" ∷ decimal answered.window.number ∷ codes "property" ∷ answered.property.name
    ∷ codes "instance" ∷ decimal answered.number ∷ answer_word answered.entry.answer ∷ []

-- an event's own words, where there is one
abbrev pub own_words : Option Event → List (List ℕ)
own_words (Some event) = event_words event
own_words None = []

-- an event as its trace has it
abbrev pub event_line : Places → WindowForm → EventId → List (List ℕ)
event_line places window id = event_id_text id ∷ (own_words (event_at window id) ++ behind places window.number id)

-- the events of an instance
abbrev pub event_lines : Places → AnsweredForm → List (List (List ℕ))
event_lines places answered = map (event_line places answered.window) answered.entry.events

-- whether an instance is the one that was seen
abbrev pub is_of : AnsweredForm → Sighting → Bool
is_of answered sighting =
    sighting.window == answered.window.number && sighting.instance == answered.number && bytes_eq sighting.property answered.property.name

-- what was seen
abbrev pub sighting_line : Sighting → List (List ℕ)
sighting_line sighting = codes "seen:" ∷ sighting.text ∷ []

-- what was seen of an instance
abbrev pub sighting_lines : List Sighting → AnsweredForm → List (List (List ℕ))
sighting_lines sightings answered = map sighting_line (filter (is_of answered) sightings)

-- the story of a schedule, in which the instance's events are marked
abbrev pub story_in : AnsweredForm → List EventId → Story
story_in answered schedule = story_of answered.window schedule answered.entry.events

-- why the instance is impossible, by a certificate
abbrev pub reason_in : AnsweredForm → Certificate → Reason
reason_in answered certificate = reason_of answered.window answered.property answered.entry.events answered.shared certificate

-- that the budget was spent
abbrev pub spent_line : ℕ → ℕ → List (List ℕ)
spent_line from to = codes "not decided with" ∷ decimal (to - from) ∷ codes "learned clauses" ∷ []

-- what shows the answer
abbrev pub answer_lines : Places → AnsweredForm → Answer → List (List (List ℕ))
answer_lines places answered (Found schedule) =
    (codes "it can happen so:" ∷ []) ∷ story_lines (behind places answered.window.number) answered.window (story_in answered schedule.events)
answer_lines places answered (Impossible certificate) = reason_lines (named places answered.window.number) (reason_in answered certificate)
answer_lines places answered (Undecided worker from to) = spent_line from to ∷ []

-- an instance, behind an empty line
abbrev pub answered_lines : Beside → AnsweredForm → List (List (List ℕ))
answered_lines beside answered =
    [] ∷ title_words answered
    ∷ (event_lines beside.places answered ++ sighting_lines beside.sightings answered ++ answer_lines beside.places answered answered.entry.answer)
