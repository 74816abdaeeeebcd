use Rattle.std.proofs.Common.{◌+◌, ◌^◌, arith}
use Rattle.std.proofs.lemmas.Int.{ints}
use Rattle.gp_difference.proofs.SettleLemmas.{lowered_bottom, moved_lowered}
use Rattle.gp_difference.proofs.settle.settle.Goals as goal

pub refresh-requires-clause-bottom : goal.refresh-requires-clause-bottom
refresh-requires-clause-bottom c = λ v.
    omega (arith, ints, lowered_bottom c.args.bounds.now.bounds c.args.edge c.args.run.now.places c.try_edge.new.run.places (2 ^ 62 + 2 ^ 28) c.in-Lowered.ensures.1 c.requires.input.bottom v)

pub returns-in-Lowered-clause-gives : goal.returns-in-Lowered-clause-gives
returns-in-Lowered-clause-gives c =
    moved_lowered c.args.bounds.now.bounds c.args.edge c.args.run.now.places c.try_edge.new.run.places c.refresh.new.run.places c.args.low.now c.refresh.result
    c.requires.input c.requires.low c.in-Lowered.ensures.0 c.in-Lowered.ensures.1 c.refresh.ensures.gives
