-- The pairs that an answer gives to a schedule: for each of its wakes the first signal that it takes.
use Rattle.std.specs.Prelude.{Bool, List, [], ◌∷◌, Option, Some, None, filter, find, flat_map}
use Rattle.gp_clause.specs.declared.valuation.Valuation.{Valuation}
use Rattle.gp_clause.specs.Valuation.{truth_of}
use Rattle.gp_window.specs.declared.schedule.EventId.{EventId}
use Rattle.gp_window.specs.Ids.{contains_event}
use Rattle.gp_window.specs.WindowForm.{WindowForm}
use Rattle.gp_constraint.specs.declared.point.Point.{Point}
use Rattle.gp_constraint.specs.declared.symbol.Symbol.TheVariants.{Signal}
use Rattle.gp_constraint.specs.Numbering.{number_of}
use Rattle.gp_notify.specs.declared.pair.Pair.{Pair}
use Rattle.gp_notify.specs.Extended.{extended_names}
use Rattle.gp_notify.specs.Signals.{signals_to, wakes_of}

-- whether the answer has the wake take the signal
abbrev pub is_taken : WindowForm → Valuation → Point → Point → Bool
is_taken window valuation w g = truth_of valuation (number_of (extended_names window) (Signal w.number g.number))

-- the pair, where there is a signal
abbrev pub pair_with : Point → Option Point → List Pair
pair_with w None = []
pair_with w (Some g) = record { wake = w.id; signal = g.id } ∷ []

-- of a wake
abbrev pub pair_of : WindowForm → Valuation → Point → List Pair
pair_of window valuation w = pair_with w (find (is_taken window valuation w) (signals_to window w))

-- of all wakes of the schedule
abbrev pub pairs_of : WindowForm → List EventId → Valuation → List Pair
pairs_of window schedule valuation =
    flat_map (pair_of window valuation) (filter (λ (w : Point). contains_event schedule w.id) (wakes_of window))
