-- The values that are kept stand in the order of their variables, and so they are the table into which they are put.
use Rattle.std.proofs.Common.{◌∙◌, sym, ap}
use Rattle.std.specs.Cmp.Lexicographic.{slice_cmp}
use Rattle.std.specs.Ordering.{nat_cmp}
use Rattle.std.specs.Prelude.{filter}
use Rattle.std.proofs.lemmas.Cmp.{nat_list_cmp_total}
use Rattle.gp_base.specs.OrderLaws.{filter_rises, put_all_in_order}
use Rattle.gp_base.specs.Table.{with_entries}
use Rattle.gp_window.specs.WindowForm.{is_kept}
use Rattle.gp_window.proofs.window.start_values_of.Goals as goal

pub returns : goal.returns
returns c =
    sym (ap (λ left. with_entries (slice_cmp nat_cmp) c.loop-variable.kept (filter is_kept left)) c.in-None.ensures.steps.0)
    ∙ c.loop-variable.invariant
    ∙ put_all_in_order nat_list_cmp_total (filter is_kept c.args.values.now) (filter_rises (slice_cmp nat_cmp) is_kept c.args.values.now c.iter-variable-items.ensures.ordered)
