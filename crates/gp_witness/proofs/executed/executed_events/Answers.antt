use Rattle.std.proofs.Common.{rules}
use Rattle.gp_witness.proofs.ByPlace.{by_sort}
use Rattle.gp_witness.proofs.executed.executed_events.Goals as goal

pub returns : goal.returns
returns c =
    rw (c.in_ok-events.ensures, c.as_slice.ensures.value)
    (by_sort c.args.window.now c.args.valuation.now c.in_ok-placed.placed.items c.sort_unstable_by_key.new.self.items c.in_ok-placed.ensures c.sort_unstable_by_key.ensures.permutation c.sort_unstable_by_key.ensures.sorted (λ a r f called. search rules))
