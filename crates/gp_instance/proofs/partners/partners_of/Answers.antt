-- One event after another counts.
use Rattle.std.proofs.Common.{arith}
use Rattle.gp_instance.specs.Partners.{Counts}
use Rattle.gp_instance.proofs.Held.{all_count}
use Rattle.gp_instance.proofs.partners.partners_of.Goals as goal

pub loop-id-preserved : goal.loop-id-preserved
loop-id-preserved c =
    all_count (Counts c.args.segments.now c.args.link.now c.args.side c.loop-id.partners) _ c.args.ids.now c.loop-id.id-index _ c.loop-id-test.true c.loop-id.invariant c.in_ok-add_partner.ensures.kept c.in_ok-add_partner.ensures.here

pub returns : goal.returns
returns c = λ k d below. c.loop-id.invariant k d (omega (arith, below, c.loop-id-test.false))
