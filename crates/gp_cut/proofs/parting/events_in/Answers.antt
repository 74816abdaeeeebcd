use Rattle.std.proofs.Common.{List, ap, arith, length}
use Rattle.gp_trace.specs.declared.event.Event.{Event}
use Rattle.gp_cut.proofs.Weighing.{segment_short}
use Rattle.gp_cut.proofs.parting.events_in.Goals as goal

pub returns-clause-small : goal.returns-clause-small
returns-clause-small c =
    let short = segment_short c.args.trace.now.segments c.args.before in
    let same = ap (λ (events : List Event). length events) c.segment_after.ensures.value in
    omega (arith, short, same, c.segment_after.ensures.rules.few)
