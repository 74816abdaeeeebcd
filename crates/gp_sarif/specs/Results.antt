-- A found instance as a result: its property, a sentence, its events, and the schedule in which it happens.
use Rattle.std.specs.Prelude.{ℕ, Bool, List, [], ◌∷◌, ◌++◌, Option, codes, decimal, map, position, unwrap_or}
use Rattle.std.specs.Str.{bytes_eq}
use Rattle.gp_json.specs.Json.{Json, Named, array, named, object}
use Rattle.gp_json.specs.Json.Json.{Number, Text}
use Rattle.gp_place.specs.declared.places.Places.{Places}
use Rattle.gp_property.specs.PropertyForm.{PropertyForm}
use Rattle.gp_report.specs.declared.record.AnswerOf.TheVariants.{Found, Impossible, Undecided}
use Rattle.gp_report.specs.Records.{Answer}
use Rattle.gp_view.specs.Answered.{AnsweredForm}
use Rattle.gp_window.specs.declared.schedule.EventId.{EventId}
use Rattle.gp_sarif.specs.Flows.{code_flow_value}
use Rattle.gp_sarif.specs.Locations.{location_value, message_value}

-- whether a property has this name
abbrev pub is_named : List ℕ → PropertyForm → Bool
is_named name property = bytes_eq property.name name

-- where the property of this name stands among these
abbrev pub rule_place : List PropertyForm → List ℕ → Option ℕ
rule_place properties name = position (is_named name) properties

-- how many properties stand before the one of this name; 0 where none has it
abbrev pub rule_index : List PropertyForm → List ℕ → ℕ
rule_index properties name = unwrap_or (rule_place properties name) 0

-- the schedule of a found instance; others have none
abbrev pub schedule_of : Answer → List EventId
schedule_of (Found schedule) = schedule.events
schedule_of (Impossible certificate) = []
schedule_of (Undecided worker from to) = []

-- what is said of the instance of this number of the property of this name in this window
unfoldable pub sentence : List ℕ → ℕ → ℕ → List ℕ
sentence name instance window =
    codes "A schedule of the recorded events shows " ++ name ++ codes ": instance " ++ decimal instance ++ codes " in window " ++ decimal window ++ codes "."

-- what an instance is
abbrev pub title_members : List PropertyForm → AnsweredForm → List Named
title_members properties answered =
    named (codes "ruleId") (Text answered.property.name)
    ∷ named (codes "ruleIndex") (Number (rule_index properties answered.property.name))
    ∷ named (codes "level") (Text (codes "warning"))
    ∷ named (codes "message") (message_value (sentence answered.property.name answered.number answered.window.number)) ∷ []

-- where it happens
abbrev pub happening_members : Places → AnsweredForm → List Named
happening_members places answered =
    named (codes "locations") (array (map (location_value places answered.window) answered.entry.events))
    ∷ named (codes "codeFlows") (array (code_flow_value places answered.window (schedule_of answered.entry.answer) ∷ [])) ∷ []

-- an instance, where these are the properties that the report answers
unfoldable pub result_value : List PropertyForm → Places → AnsweredForm → Json
result_value properties places answered = object (title_members properties answered ++ happening_members places answered)
