-- One event further to the front.
use Rattle.std.proofs.Common.{◌≡◌, ◌∙◌, ◌+◌, ◌-◌, ap, arith, get_or, length, reverse}
use Rattle.gp_instance.specs.Region.{waiting_at}
use Rattle.gp_instance.proofs.Ends.{table_step}
use Rattle.gp_instance.proofs.region.ends_of.Goals as goal

pub loop-behind-preserved : goal.loop-behind-preserved
loop-behind-preserved c =
    let segment = c.args.segment.now in
    let behind = c.loop-behind.behind in
    let index = length segment - (behind + 1) in
    let event = c.index-segment-index.result in
    let same : length segment - 1 - behind ≡ index = omega arith in
    let step = table_step segment index (length segment - behind) event c.loop-behind.waiting.items c.take_end.new.waiting.items c.loop-behind.ends.items c.in_ok-end.end
    (omega arith) (omega arith) (c.index-segment-index.is ∙ ap (λ i. get_or segment i event) same)
    c.loop-behind.invariant.waits c.loop-behind.invariant.made c.in_ok-end.ensures.end (c.in_ok-end.ensures.waiting ∙ ap (λ i. waiting_at event i c.loop-behind.waiting.items) same) in
    record {
      waits = step.0;
      made = ap reverse c.in_ok-push.ensures.items ∙ step.1;
    }
