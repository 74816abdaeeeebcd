-- An instance of a report as a value: what it is, its events, what was seen of it, and what shows its answer.
use Rattle.std.specs.Prelude.{◌-◌, List, [], ◌∷◌, ◌++◌, codes, filter, map}
use Rattle.gp_json.specs.Json.{Json, Named, array, named, object}
use Rattle.gp_json.specs.Json.Json.{Null, Number, Text}
use Rattle.gp_place.specs.Places as naming
use Rattle.gp_place.specs.declared.beside.Beside.{Beside}
use Rattle.gp_place.specs.declared.beside.Sighting.{Sighting}
use Rattle.gp_place.specs.declared.places.Places.{Places}
use Rattle.gp_report.specs.declared.record.AnswerOf.TheVariants.{Found, Impossible, Undecided}
use Rattle.gp_report.specs.Records.{Answer}
use Rattle.gp_view.specs.Answered.{AnsweredForm}
use Rattle.gp_view.specs.Text.{answer_word, is_of, reason_in, story_in}
use Rattle.gp_values.specs.Events.{event_value}
use Rattle.gp_values.specs.Reasons.{reason_value}
use Rattle.gp_values.specs.Stories.{story_value}

-- the events of an instance
abbrev pub events_value : Places → AnsweredForm → Json
events_value places answered = array (map (event_value places answered.window) answered.entry.events)

-- what was seen
abbrev pub sighting_value : Sighting → Json
sighting_value sighting = Text sighting.text

-- what was seen of an instance
abbrev pub sightings_value : List Sighting → AnsweredForm → Json
sightings_value sightings answered = array (map sighting_value (filter (is_of answered) sightings))

-- the schedule in which a found one happens
abbrev pub schedule_value : Places → AnsweredForm → Answer → Json
schedule_value places answered (Found schedule) = story_value places answered.window (story_in answered schedule.events)
schedule_value places answered (Impossible certificate) = Null
schedule_value places answered (Undecided worker from to) = Null

-- why an impossible one is impossible
abbrev pub why_value : Places → AnsweredForm → Answer → Json
why_value places answered (Found schedule) = Null
why_value places answered (Impossible certificate) = reason_value (naming.named places answered.window.number) (reason_in answered certificate)
why_value places answered (Undecided worker from to) = Null

-- with how many learned clauses one was not decided
abbrev pub learned_value : Answer → Json
learned_value (Found schedule) = Null
learned_value (Impossible certificate) = Null
learned_value (Undecided worker from to) = Number (to - from)

-- what an instance is
abbrev pub title_members : AnsweredForm → List Named
title_members answered =
    named (codes "window") (Number answered.window.number)
    ∷ named (codes "property") (Text answered.property.name)
    ∷ named (codes "instance") (Number answered.number)
    ∷ named (codes "answer") (Text (answer_word answered.entry.answer)) ∷ []

-- an instance
unfoldable pub answered_value : Beside → AnsweredForm → Json
answered_value beside answered = object (title_members answered ++
    named (codes "events") (events_value beside.places answered)
    ∷ named (codes "seen") (sightings_value beside.sightings answered)
    ∷ named (codes "schedule") (schedule_value beside.places answered answered.entry.answer)
    ∷ named (codes "reason") (why_value beside.places answered answered.entry.answer)
    ∷ named (codes "learned") (learned_value answered.entry.answer) ∷ [])
