use Rattle.std.proofs.Common.{◌≡◌, ◌≤◌, ◌+◌, ◌*◌, ◌++◌, drop}
use Rattle.gp_patterns.specs.Tickets.{properties_count}
use Rattle.gp_predict.specs.Listing.{properties_lines}
use Rattle.gp_predict.proofs.listing.add_properties.Given as goal

abbrev pub invariant-loop-number : goal.invariant-loop-number
invariant-loop-number l =
    (l.lines ++ properties_lines l.window l.number (drop l.number l.properties) ≡ l.initial.lines ++ properties_lines l.window 0 l.properties)
    × (l.count + properties_count l.window l.number (drop l.number l.properties) ≡ properties_count l.window 0 l.properties)
    × (l.count ≤ l.number * 10000)
