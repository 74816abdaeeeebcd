use Rattle.std.proofs.Common.{◌≡◌, ◌++◌, decimal, drop, flat_map, map}
use Rattle.gp_overview.specs.Page.{body_cell}
use Rattle.gp_overview.proofs.page.put_number_cells.Given as goal

abbrev pub invariant-loop-number : goal.invariant-loop-number
invariant-loop-number l =
    l.text.items ++ flat_map body_cell (map decimal (drop l.number-index l.numbers)) ≡ l.initial.text.items ++ flat_map body_cell (map decimal l.numbers)
