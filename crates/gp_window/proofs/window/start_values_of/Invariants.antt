-- What was kept, and then what is kept of what is left, is all that is kept.
use Rattle.std.proofs.Common.{◌≡◌, []}
use Rattle.std.specs.Cmp.Lexicographic.{slice_cmp}
use Rattle.std.specs.Ordering.{nat_cmp}
use Rattle.std.specs.Prelude.{filter}
use Rattle.gp_base.specs.Table.{with_entries}
use Rattle.gp_window.specs.WindowForm.{is_kept}
use Rattle.gp_window.proofs.window.start_values_of.Given as goal

abbrev pub invariant-loop-variable : goal.invariant-loop-variable
invariant-loop-variable l =
    with_entries (slice_cmp nat_cmp) l.kept (filter is_kept l.variable-iterator) ≡ with_entries (slice_cmp nat_cmp) [] (filter is_kept l.values)
