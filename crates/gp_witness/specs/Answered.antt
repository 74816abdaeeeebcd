-- Answers to the problem of a window and to the query of an instance, and the schedule that the latter gives.
use Rattle.std.specs.Prelude.{◌≡◌, List, []}
use Rattle.gp_clause.specs.declared.valuation.Valuation.{Valuation}
use Rattle.gp_clause.specs.Valuation.{Meets}
use Rattle.gp_constraint.specs.Base.{base_of}
use Rattle.gp_constraint.specs.Query.{query_of}
use Rattle.gp_property.specs.PropertyForm.{PropertyForm}
use Rattle.gp_window.specs.declared.schedule.EventId.{EventId}
use Rattle.gp_window.specs.WindowForm.{WindowForm}
use Rattle.gp_witness.specs.Witness.{IsByPlace, up_to_last}

-- an answer to the problem of a window, with nothing asked
abbrev pub SolvesWindow : WindowForm → Valuation → Type 0
SolvesWindow window valuation = Meets (base_of window) (record { locals = []; assumed = [] }) valuation

-- an answer to the query of an instance in a window
abbrev pub SolvesInstance : WindowForm → PropertyForm → List EventId → Valuation → Type 0
SolvesInstance window property ids valuation = Meets (base_of window) (query_of window property ids) valuation

-- the executed events of an answer in the order of their places, up to the last of these events
abbrev pub IsWitness : WindowForm → Valuation → List EventId → List EventId → Type 0
IsWitness window valuation ids schedule = (all : List EventId) × IsByPlace window valuation all × (schedule ≡ up_to_last ids all)
