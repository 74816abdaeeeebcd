-- What literals say of events.
use Rattle.std.specs.Prelude.{ℕ, Bool, true, false, List, Option, Some, None, map, slice_get}
use Rattle.gp_clause.specs.declared.lit.Lit.{Lit}
use Rattle.gp_constraint.specs.PointIds.{id_at}
use Rattle.gp_constraint.specs.Points.{points_of}
use Rattle.gp_constraint.specs.declared.symbol.Symbol.{Symbol}
use Rattle.gp_constraint.specs.declared.symbol.Symbol.TheVariants as symbol
use Rattle.gp_window.specs.declared.schedule.EventId.{EventId}
use Rattle.gp_window.specs.WindowForm.{WindowForm}
use Rattle.gp_reason.specs.declared.fact.Fact.{Fact}
use Rattle.gp_reason.specs.declared.fact.Fact.TheVariants.{Executed, NotExecuted, Before, Sees, NotSees, SeesStart, NotSeesStart, SectionBefore, Last, NotLast, Takes, NotTakes, Within, Beyond, Unnamed}

-- what a symbol says of the events of its points, or its negation; of an order, and of sections, the negation is the other order
abbrev pub fact_by : (ℕ → EventId) → Symbol → Bool → Fact
fact_by event (symbol.Executed p) true = Executed (event p)
fact_by event (symbol.Executed p) false = NotExecuted (event p)
fact_by event (symbol.Order a b) true = Before (event a) (event b)
fact_by event (symbol.Order a b) false = Before (event b) (event a)
fact_by event (symbol.Choice read write) true = Sees (event read) (event write)
fact_by event (symbol.Choice read write) false = NotSees (event read) (event write)
fact_by event (symbol.StartChoice read) true = SeesStart (event read)
fact_by event (symbol.StartChoice read) false = NotSeesStart (event read)
fact_by event (symbol.First a b) true = SectionBefore (event a) (event b)
fact_by event (symbol.First a b) false = SectionBefore (event b) (event a)
fact_by event (symbol.Last write) true = Last (event write)
fact_by event (symbol.Last write) false = NotLast (event write)
fact_by event (symbol.Signal wake sent) true = Takes (event wake) (event sent)
fact_by event (symbol.Signal wake sent) false = NotTakes (event wake) (event sent)
fact_by event (symbol.Span a b width) true = Within (event a) (event b) width
fact_by event (symbol.Span a b width) false = Beyond (event a) (event b) width

-- what a literal says, where its variable stands for a symbol, and where it has no name
abbrev pub fact_named : (ℕ → EventId) → Lit → Option Symbol → Fact
fact_named event lit (Some symbol) = fact_by event symbol lit.positive
fact_named event lit None = Unnamed lit.variable lit.positive

-- what a literal says, where each variable stands for the symbol at its place among the names
abbrev pub fact_of : List Symbol → (ℕ → EventId) → Lit → Fact
fact_of names event lit = fact_named event lit (slice_get names lit.variable)

-- what each literal says of the events of a window
abbrev pub facts_of : WindowForm → List Symbol → List Lit → List Fact
facts_of window names lits = map (fact_of names (id_at (points_of window))) lits
