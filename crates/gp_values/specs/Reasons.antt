-- A reason as a value, where `name` says how an event is named: what is assumed, and the steps. Each sentence is a string.
use Rattle.std.specs.Prelude.{ℕ, List, [], ◌∷◌, ◌++◌, codes, map}
use Rattle.gp_json.specs.Json.{Json, array, named, object}
use Rattle.gp_json.specs.Json.Json.{Text}
use Rattle.gp_reason.specs.declared.fact.Fact.{Fact}
use Rattle.gp_reason.specs.declared.reasons.Ground.{Ground}
use Rattle.gp_reason.specs.declared.reasons.Reason.{Reason}
use Rattle.gp_reason.specs.declared.reasons.ReasonStep.{ReasonStep}
use Rattle.gp_tell.specs.FactText.{any_text, fact_text}
use Rattle.gp_tell.specs.ReasonText.{cycle_words, ground_words}
use Rattle.gp_text.specs.Spelling.{joined}
use Rattle.gp_window.specs.declared.schedule.EventId.{EventId}

abbrev pub fact_value : (EventId → List ℕ) → Fact → Json
fact_value name fact = Text (fact_text name fact)

-- what a step rests on
abbrev pub ground_value : (EventId → List ℕ) → Ground → Json
ground_value name basis = Text (joined (ground_words name basis))

-- the events of a cycle
abbrev pub cycle_value : (EventId → List ℕ) → EventId → List EventId → Json
cycle_value name first others = Text (joined (cycle_words name first others))

-- the same, where there are any
abbrev pub cycle_values : (EventId → List ℕ) → List EventId → List Json
cycle_values name [] = []
cycle_values name (first ∷ others) = cycle_value name first others ∷ []

-- what a step says
abbrev pub says_value : (EventId → List ℕ) → List Fact → Json
says_value name facts = Text (any_text name facts)

-- a step: what it says, and since what
unfoldable pub step_value : (EventId → List ℕ) → ReasonStep → Json
step_value name step = object (
    named (codes "says") (says_value name step.says)
    ∷ named (codes "since") (array (map (ground_value name) step.grounds ++ cycle_values name step.cycle)) ∷ [])

-- a reason
unfoldable pub reason_value : (EventId → List ℕ) → Reason → Json
reason_value name reason = object (
    named (codes "assumed") (array (map (fact_value name) reason.assumed))
    ∷ named (codes "steps") (array (map (step_value name) reason.steps)) ∷ [])
