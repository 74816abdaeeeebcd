use Rattle.gp_compact.proofs.Windows.{one_made}
use Rattle.gp_compact.proofs.compacting.compact_over.Goals as goal

pub loop-told-preserved : goal.loop-told-preserved
loop-told-preserved c =
    one_made c.args.windows.now c.loop-told.windows c.compact_next.new.windows c.loop-told.yielded c.loop-told.made.items c.push.new.self.items c.in-Some.told c.in_ok-compact_next.field-0
    c.loop-told.invariant c.in_ok-compact_next.ensures.made c.in_ok-compact_next.ensures.left c.in_ok-push.ensures.items
