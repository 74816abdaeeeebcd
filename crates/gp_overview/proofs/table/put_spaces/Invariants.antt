use Rattle.std.proofs.Common.{◌≡◌, ◌-◌, ◌++◌}
use Rattle.gp_overview.specs.Table.{spaces}
use Rattle.gp_overview.proofs.table.put_spaces.Given as goal

abbrev pub invariant-loop-space : goal.invariant-loop-space
invariant-loop-space l = l.text.items ++ spaces (l.count - l._space) ≡ l.initial.text.items ++ spaces l.count
