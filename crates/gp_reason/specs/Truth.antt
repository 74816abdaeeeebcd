-- When facts hold, by a truth of symbols and by places of points.
use Rattle.std.specs.Prelude.{ℕ, pos, negsuc, ◌≡◌, ◌⊎◌, ◌<◌, ◌-ℤ◌, ◌≤ℤ◌, ◌<ℤ◌, true, false, length}
use Rattle.gp_constraint.specs.PointIds.{id_at}
use Rattle.gp_constraint.specs.Points.{number_in, points_of}
use Rattle.gp_constraint.specs.SymbolTruth.{IsTrueLit, SymbolTruth}
use Rattle.gp_constraint.specs.declared.symbol.Symbol.{Symbol}
use Rattle.gp_constraint.specs.declared.symbol.Symbol.TheVariants as symbol
use Rattle.gp_constraint.specs.declared.symbol.SymbolicLit.{SymbolicLit}
use Rattle.gp_window.specs.declared.schedule.EventId.{EventId}
use Rattle.gp_window.specs.WindowForm.{WindowForm}
use Rattle.gp_reason.specs.declared.fact.Fact.{Fact}
use Rattle.gp_reason.specs.declared.fact.Fact.TheVariants.{Executed, NotExecuted, Before, Sees, NotSees, SeesStart, NotSeesStart, SectionBefore, Last, NotLast, Takes, NotTakes, Within, Beyond, Unnamed}
use Rattle.gp_reason.specs.Facts.{fact_by}

-- whether a fact holds, where events have these numbers; of orders and distances by the places. Of a variable without a name nothing is said
abbrev pub HoldsBy : (EventId → ℕ) → SymbolTruth → Fact → Type 0
HoldsBy number t (Executed event) = t.symbols (symbol.Executed (number event)) ≡ true
HoldsBy number t (NotExecuted event) = t.symbols (symbol.Executed (number event)) ≡ false
HoldsBy number t (Before one other) = t.places (number one) <ℤ t.places (number other)
HoldsBy number t (Sees read write) = t.symbols (symbol.Choice (number read) (number write)) ≡ true
HoldsBy number t (NotSees read write) = t.symbols (symbol.Choice (number read) (number write)) ≡ false
HoldsBy number t (SeesStart read) = t.symbols (symbol.StartChoice (number read)) ≡ true
HoldsBy number t (NotSeesStart read) = t.symbols (symbol.StartChoice (number read)) ≡ false
HoldsBy number t (SectionBefore one other) =
    (t.symbols (symbol.First (number one) (number other)) ≡ true) ⊎ (t.symbols (symbol.First (number other) (number one)) ≡ false)
HoldsBy number t (Last write) = t.symbols (symbol.Last (number write)) ≡ true
HoldsBy number t (NotLast write) = t.symbols (symbol.Last (number write)) ≡ false
HoldsBy number t (Takes wake sent) = t.symbols (symbol.Signal (number wake) (number sent)) ≡ true
HoldsBy number t (NotTakes wake sent) = t.symbols (symbol.Signal (number wake) (number sent)) ≡ false
HoldsBy number t (Within one other width) = (t.places (number one) -ℤ t.places (number other)) ≤ℤ pos width
HoldsBy number t (Beyond one other width) = (t.places (number other) -ℤ t.places (number one)) ≤ℤ negsuc width
HoldsBy number t (Unnamed variable value) = Unit {0}

-- the numbers that a symbol has are those of some of so many points
abbrev pub NamesPoints : ℕ → Symbol → Type 0
NamesPoints count (symbol.Executed p) = p < count
NamesPoints count (symbol.Order a b) = (a < count) × (b < count)
NamesPoints count (symbol.Choice read write) = (read < count) × (write < count)
NamesPoints count (symbol.StartChoice read) = read < count
NamesPoints count (symbol.First a b) = (a < count) × (b < count)
NamesPoints count (symbol.Last write) = write < count
NamesPoints count (symbol.Signal wake sent) = (wake < count) × (sent < count)
NamesPoints count (symbol.Span a b width) = (a < count) × (b < count)

-- where a literal of the points of a window is true, and the places keep what it says, the fact that it says holds
abbrev pub FactsAreTrue : Type 0
FactsAreTrue = (window : WindowForm) (t : SymbolTruth) (lit : SymbolicLit) → NamesPoints (length (points_of window)) lit.symbol → IsTrueLit t lit
    → HoldsBy (number_in window) t (fact_by (id_at (points_of window)) lit.symbol lit.positive)
