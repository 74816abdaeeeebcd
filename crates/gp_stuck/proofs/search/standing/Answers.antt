-- One that holds the lock more.
use Rattle.gp_stuck.specs.Noted.{holders_of, standing}
use Rattle.std.specs.List.{flat_map}
use Rattle.gp_stuck.specs.Search.{going_on, takers_of}
use Rattle.gp_stuck.proofs.Standing.{standing_step}
use Rattle.gp_stuck.proofs.search.standing.Goals as goal

pub loop-holder-preserved : goal.loop-holder-preserved
loop-holder-preserved c = record {
  walk = standing_step (going_on c.args.waiting.now c.args.first.now.holding.id c.args.passed.now c.args.fewer) c.args.waiting.now c.args.mode c.args.first.now.holding.id c.args.passed.now
      c.holders-holder-items.result.now c.loop-holder.holder-index _ c.loop-holder.kept c.keep_id.new.kept c.may_enter-keep.result
      (flat_map (going_on c.args.waiting.now c.args.first.now.holding.id c.args.passed.now c.args.fewer) (standing c.args.waiting.now c.args.mode c.args.first.now.holding.id c.args.passed.now (holders_of c.args.waiting.now c.args.lock (takers_of c.args.waiting.now))))
      c.loop-holder-test.true c.in_ok-keep_id.ensures c.may_enter-keep.ensures c.loop-holder.invariant.walk;
}
