-- Facts as text, where `name` says how an event is named.
use Rattle.std.specs.Prelude.{ℕ, true, false, List, [], ◌∷◌, ◌++◌, codes, decimal}
use Rattle.std.specs.List.{flat_map}
use Rattle.gp_window.specs.declared.schedule.EventId.{EventId}
use Rattle.gp_reason.specs.declared.fact.Fact.{Fact}
use Rattle.gp_reason.specs.declared.fact.Fact.TheVariants.{Executed, NotExecuted, Before, Sees, NotSees, SeesStart, NotSeesStart, SectionBefore, Last, NotLast, Takes, NotTakes, Within, Beyond, Unnamed}

-- a fact
abbrev pub fact_text : (EventId → List ℕ) → Fact → List ℕ
fact_text name (Executed event) = name event ++ codes " is executed"
fact_text name (NotExecuted event) = name event ++ codes " is not executed"
fact_text name (Before one other) = name one ++ codes " is before " ++ name other
fact_text name (Sees read write) = name read ++ codes " sees " ++ name write
fact_text name (NotSees read write) = name read ++ codes " does not see " ++ name write
fact_text name (SeesStart read) = name read ++ codes " sees the beginning"
fact_text name (NotSeesStart read) = name read ++ codes " does not see the beginning"
fact_text name (SectionBefore one other) = codes "the section of " ++ name one ++ codes " is before that of " ++ name other
fact_text name (Last write) = name write ++ codes " is the last write"
fact_text name (NotLast write) = name write ++ codes " is not the last write"
fact_text name (Takes wake sent) = name wake ++ codes " takes the signal of " ++ name sent
fact_text name (NotTakes wake sent) = name wake ++ codes " does not take the signal of " ++ name sent
fact_text name (Within one other width) = name one ++ codes " is at most " ++ decimal width ++ codes " places behind " ++ name other
fact_text name (Beyond one other width) = name one ++ codes " is more than " ++ decimal width ++ codes " places behind " ++ name other
fact_text name (Unnamed variable true) = codes "something without a name is true (" ++ decimal variable ++ codes ")"
fact_text name (Unnamed variable false) = codes "something without a name is false (" ++ decimal variable ++ codes ")"

-- a further fact that may hold in place of those before it
abbrev pub or_fact : (EventId → List ℕ) → Fact → List ℕ
or_fact name fact = codes ", or " ++ fact_text name fact

-- that one of these facts holds
abbrev pub any_text : (EventId → List ℕ) → List Fact → List ℕ
any_text name [] = codes "a contradiction"
any_text name (fact ∷ facts) = fact_text name fact ++ flat_map (or_fact name) facts
