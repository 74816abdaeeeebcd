use Rattle.std.proofs.Common.{◌≡◌, ◌++◌, decimal, drop, flat_map, map}
use Rattle.gp_overview.specs.Table.{cell}
use Rattle.gp_overview.proofs.table.put_number_cells.Given as goal

abbrev pub invariant-loop-number : goal.invariant-loop-number
invariant-loop-number l =
    l.text.items ++ flat_map cell (map decimal (drop l.number-index l.numbers)) ≡ l.initial.text.items ++ flat_map cell (map decimal l.numbers)
