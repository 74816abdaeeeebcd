-- A reason as text, where `name` says how an event is named: what is assumed, then each step with its grounds and with the events of a cycle. A line is a list of phrases, and a space stands between two of them.
use Rattle.std.specs.Prelude.{ℕ, ◌+◌, List, [], ◌∷◌, ◌++◌, codes, decimal, map}
use Rattle.std.specs.List.{flat_map}
use Rattle.gp_constraint.specs.declared.base_family.BaseFamily.{BaseFamily}
use Rattle.gp_constraint.specs.declared.base_family.BaseFamily.TheVariants.{ProgramOrder, Start, Join, Read, Choice, StartChoice, Section, HeldLock}
use Rattle.gp_window.specs.declared.schedule.EventId.{EventId}
use Rattle.gp_reason.specs.declared.fact.Fact.{Fact}
use Rattle.gp_reason.specs.declared.reasons.Ground.{Ground}
use Rattle.gp_reason.specs.declared.reasons.Ground.TheVariants.{Base, Earlier, Everything, ThreadOrder}
use Rattle.gp_reason.specs.declared.reasons.Reason.{Reason}
use Rattle.gp_reason.specs.declared.reasons.ReasonStep.{ReasonStep}
use Rattle.gp_tell.specs.FactText.{any_text, fact_text}

-- a family of the window's clauses
abbrev pub family_text : BaseFamily → List ℕ
family_text ProgramOrder = codes "program order:"
family_text Start = codes "start:"
family_text Join = codes "join:"
family_text Read = codes "value of a read:"
family_text Choice = codes "what a read sees:"
family_text StartChoice = codes "the beginning is seen:"
family_text Section = codes "sections of a lock:"
family_text HeldLock = codes "lock held from before:"

-- what a step rests on: a clause of the window with its family, an earlier step by its number from 1, all there is, or no clause
abbrev pub ground_words : (EventId → List ℕ) → Ground → List (List ℕ)
ground_words name (Base family facts) = family_text family ∷ any_text name facts ∷ []
ground_words name (Earlier place) = codes "step" ∷ decimal (place + 1) ∷ []
ground_words name Everything = codes "all of the above and of the window" ∷ []
ground_words name ThreadOrder = codes "the order within threads alone" ∷ []

-- one of the lines under another one
abbrev pub item_line : List (List ℕ) → List (List ℕ)
item_line words = codes "-" ∷ words

-- a fact that is assumed
abbrev pub assumed_line : (EventId → List ℕ) → Fact → List (List ℕ)
assumed_line name fact = item_line (fact_text name fact ∷ [])

-- a ground
abbrev pub ground_line : (EventId → List ℕ) → Ground → List (List ℕ)
ground_line name basis = item_line (ground_words name basis)

-- what the step of this number says
abbrev pub says_line : (EventId → List ℕ) → ℕ → List Fact → List (List ℕ)
says_line name number facts = (decimal number ++ codes ".") ∷ (any_text name facts ++ codes ",") ∷ codes "since" ∷ []

-- that what stands before is before an event
abbrev pub before_words : (EventId → List ℕ) → EventId → List (List ℕ)
before_words name event = codes "before" ∷ name event ∷ []

-- events of which each is before the next, and the last one before the first
abbrev pub cycle_words : (EventId → List ℕ) → EventId → List EventId → List (List ℕ)
cycle_words name first others = codes "a cycle:" ∷ name first ∷ (flat_map (before_words name) others ++ before_words name first)

abbrev pub cycle_line : (EventId → List ℕ) → EventId → List EventId → List (List ℕ)
cycle_line name first others = item_line (cycle_words name first others)

-- the events of a cycle, where there are any
abbrev pub cycle_lines : (EventId → List ℕ) → List EventId → List (List (List ℕ))
cycle_lines name [] = []
cycle_lines name (first ∷ others) = cycle_line name first others ∷ []

-- the step of this number
abbrev pub step_lines : (EventId → List ℕ) → ℕ → ReasonStep → List (List (List ℕ))
step_lines name number step = says_line name number step.says ∷ (map (ground_line name) step.grounds ++ cycle_lines name step.cycle)

-- the steps from this number on
abbrev pub steps_lines : (EventId → List ℕ) → ℕ → List ReasonStep → List (List (List ℕ))
steps_lines name number [] = []
steps_lines name number (step ∷ steps) = step_lines name number step ++ steps_lines name (number + 1) steps

-- a reason
abbrev pub reason_lines : (EventId → List ℕ) → Reason → List (List (List ℕ))
reason_lines name reason = (codes "this cannot all hold:" ∷ []) ∷ (map (assumed_line name) reason.assumed ++ steps_lines name 1 reason.steps)
