-- What was put in, and then what is left, is the whole.
use Rattle.std.proofs.Common.{◌≡◌, []}
use Rattle.gp_base.specs.Table.{with_entries}
use Rattle.gp_base.proofs.table.Table.copy.Given as goal

abbrev pub invariant-loop-key : goal.invariant-loop-key
invariant-loop-key g l = with_entries g.K.Ord.cmp l.copy l.key-iterator ≡ with_entries g.K.Ord.cmp [] l.self
