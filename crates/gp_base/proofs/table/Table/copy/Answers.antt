-- Entries in the order of their keys are the table into which they are put.
use Rattle.std.proofs.Common.{◌∙◌, sym, ap}
use Rattle.gp_base.specs.OrderLaws.{put_all_in_order}
use Rattle.gp_base.specs.Table.{with_entries}
use Rattle.gp_base.proofs.table.Table.copy.Goals as goal

pub returns : goal.returns
returns g c =
    sym (ap (with_entries g.K.Ord.cmp c.loop-key.copy) c.in-None.ensures.steps.0)
    ∙ c.loop-key.invariant
    ∙ put_all_in_order g.met.K.Ord.total c.args.self.now c.iter-key-items.ensures.ordered
