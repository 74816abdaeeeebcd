-- What a truth of symbols and places of points say of clauses over symbols.
use Rattle.std.specs.Prelude.{ℕ, ℤ, suc, pos, negsuc, ◌≡◌, ◌-ℤ◌, ◌≤ℤ◌, ◌<ℤ◌, Bool, true, false, List, Some}
use Rattle.std.specs.List.{AllByRecursion, Any}
use Rattle.gp_clause.specs.declared.valuation.Valuation.{Valuation}
use Rattle.gp_clause.specs.Valuation.{place_of, truth_of}
use Rattle.gp_trace.specs.declared.event.Event.{Event}
use Rattle.gp_window.specs.declared.schedule.EventId.{EventId}
use Rattle.gp_window.specs.Events.{event_at}
use Rattle.gp_window.specs.WindowForm.{WindowForm}
use Rattle.gp_constraint.specs.declared.symbol.Symbol.{Symbol}
use Rattle.gp_constraint.specs.declared.symbol.Symbol.TheVariants.{Order, Span}
use Rattle.gp_constraint.specs.declared.symbol.SymbolicLit.{SymbolicLit}
use Rattle.gp_constraint.specs.Numbering.{number_of}
use Rattle.gp_constraint.specs.PointLaws.{event_id}

-- a truth of symbols, and places of points by their numbers
pub record SymbolTruth : Type 0 where
  pub symbols : Symbol → Bool
  pub places : ℕ → ℤ

-- what a literal of an order or a span says of the places
abbrev pub Bound : SymbolTruth → Symbol → Bool → Type 0
Bound t (Order a b) true = t.places a <ℤ t.places b
Bound t (Order a b) false = t.places b <ℤ t.places a
Bound t (Span a b c) true = (t.places a -ℤ t.places b) ≤ℤ pos c
Bound t (Span a b c) false = (t.places b -ℤ t.places a) ≤ℤ negsuc c
Bound t _ positive = Unit {0}

-- a literal is true, and the places keep what it says
abbrev pub IsTrueLit : SymbolTruth → SymbolicLit → Type 0
IsTrueLit t lit = (t.symbols lit.symbol ≡ lit.positive) × Bound t lit.symbol lit.positive

-- some literal of the clause is true, and the places keep what it says
abbrev pub HoldsSymbolic : SymbolTruth → List SymbolicLit → Type 0
HoldsSymbolic t lits = Any (IsTrueLit t) lits

-- it is so of each clause
abbrev pub HoldAll : SymbolTruth → List (List SymbolicLit) → Type 0
HoldAll t clauses = AllByRecursion (HoldsSymbolic t) clauses

-- the places rise along each thread
abbrev pub KeepsEdges : WindowForm → (EventId → ℕ) → SymbolTruth → Type 0
KeepsEdges window number t = (thread index : ℕ) (event : Event) → event_at window (event_id thread (suc index)) ≡ Some event
    → t.places (number (event_id thread index)) <ℤ t.places (number (event_id thread (suc index)))

-- the truth of symbols that an answer gives, each symbol being the variable of its place among the names
abbrev pub read_by : List Symbol → Valuation → SymbolTruth
read_by names valuation = record {
  symbols = λ symbol. truth_of valuation (number_of names symbol);
  places = place_of valuation;
}
