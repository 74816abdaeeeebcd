-- The executed events of an answer, each at its place.
use Rattle.std.specs.Prelude.{ℕ, List, [], ◌∷◌, if◌then◌else◌}
use Rattle.gp_clause.specs.declared.valuation.Valuation.{Valuation}
use Rattle.gp_clause.specs.Valuation.{place_of, truth_of}
use Rattle.gp_constraint.specs.declared.point.Point.{Point}
use Rattle.gp_window.specs.declared.schedule.EventId.{EventId}
use Rattle.gp_witness.specs.declared.executed.Placed.{Placed}

-- the event of this number at its place, where the answer has it executed
abbrev pub placed_at : Valuation → ℕ → EventId → List Placed
placed_at valuation number id = if truth_of valuation number then record { place = place_of valuation number; id = id } ∷ [] else []

-- the event of a point at its place, where the answer has it executed
abbrev pub placed_of : Valuation → Point → List Placed
placed_of valuation point = placed_at valuation point.number point.id
