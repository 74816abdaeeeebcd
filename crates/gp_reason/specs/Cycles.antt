-- A cycle of events by which a step follows: what the step denies and what it cites force orders that lead round.
use Rattle.std.specs.Prelude.{ℕ, ◌==◌, Bool, false, List, [], ◌∷◌, ◌++◌, Option, None, Some, if◌then◌else◌, length, nat_lt, reverse, slice_get}
use Rattle.std.specs.List.{flat_map}
use Rattle.gp_certificate.specs.declared.step.Step.{Step}
use Rattle.gp_certificate.specs.Certificate.{clauses_of}
use Rattle.gp_clause.specs.declared.lit.Lit.{Lit}
use Rattle.gp_clause.specs.Lit.{negations}
use Rattle.gp_constraint.specs.declared.symbol.Symbol.{Symbol}
use Rattle.gp_constraint.specs.Base.{base_of}
use Rattle.gp_cycle.specs.declared.order.Order.{Order}
use Rattle.gp_cycle.specs.Cycle.{cycle_events, cycle_of}
use Rattle.gp_cycle.specs.Forced.{forced}
use Rattle.gp_window.specs.declared.schedule.EventId.{EventId}
use Rattle.gp_window.specs.WindowForm.{WindowForm}
use Rattle.gp_reason.specs.declared.fact.Fact.{Fact}
use Rattle.gp_reason.specs.declared.fact.Fact.TheVariants.{Before}
use Rattle.gp_reason.specs.Facts.{facts_of}

-- the clauses that hints number: those of a window, then those of shared steps, and then those of a certificate's own
abbrev pub numbered_clauses : WindowForm → List Step → List Step → List (List Lit)
numbered_clauses window shared own = (base_of window).clauses ++ (clauses_of shared ++ clauses_of own)

-- a clause, where there is one
abbrev pub clause_list : Option (List Lit) → List (List Lit)
clause_list (Some clause) = clause ∷ []
clause_list None = []

-- the clause that a hint numbers, where it is before that of the step of this number
abbrev pub clause_before : List (List Lit) → ℕ → ℕ → List (List Lit)
clause_before clauses number hint = if nat_lt hint number then clause_list (slice_get clauses hint) else []

-- the clauses before that of the step of this number that hints number, the last hint first, since hints mostly lead back from what
-- fails: none, where there are no hints
abbrev pub hinted : List (List Lit) → ℕ → List ℕ → List (List Lit)
hinted clauses number hints = flat_map (clause_before clauses number) (reverse hints)

-- the order that a fact says, where it says one
abbrev pub order_said : Fact → List Order
order_said (Before one other) = record { one = one; other = other } ∷ []
order_said _ = []

-- the orders that literals say
abbrev pub orders_of : WindowForm → List Symbol → List Lit → List Order
orders_of window names lits = flat_map order_said (facts_of window names lits)

-- the events of a cycle, where there is one
abbrev pub events_of : Option (List Order) → List EventId
events_of (Some cycle) = cycle_events cycle
events_of None = []

-- the events of a cycle of the orders that literals say, where there are literals and a cycle
abbrev pub cycle_by : WindowForm → List Symbol → Option (List Lit) → List EventId
cycle_by window names (Some lits) = events_of (cycle_of (orders_of window names lits))
cycle_by window names None = []

-- what unit clauses force from the negation of the clause of a step of this number, by those that its hints number
abbrev pub forced_in : List (List Lit) → ℕ → Step → Option (List Lit)
forced_in clauses number step = forced (negations step.clause) (hinted clauses number step.hints)

-- whether what is forced from a start is the start alone, and no clause becomes false
abbrev pub adds_nothing : List Lit → Option (List Lit) → Bool
adds_nothing start (Some lits) = length lits == length start
adds_nothing start None = false

-- whether the clauses that the hints of a step of this number number force nothing from what it denies, and none of them becomes false
unfoldable pub forces_nothing : List (List Lit) → ℕ → Step → Bool
forces_nothing clauses number step = adds_nothing (negations step.clause) (forced_in clauses number step)

-- the events of a cycle by which a step of this number follows; none where a clause becomes false or no orders lead round
unfoldable pub cycle_told : WindowForm → List Symbol → List (List Lit) → ℕ → Step → List EventId
cycle_told window names clauses number step = cycle_by window names (forced_in clauses number step)
