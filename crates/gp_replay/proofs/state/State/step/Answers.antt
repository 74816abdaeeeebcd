use Rattle.gp_replay.proofs.Countable.{countable}
use Rattle.gp_replay.proofs.state.State.step.Goals as goal

pub count-requires : goal.count-requires
count-requires c = record {
  below = countable c.args.self.now c.take_effect.new.self c.args.id c.event_at.result c.in_ok-event.event c.in_ok-turn.field-0
      c.in_ok-event.ensures.ok_part c.event_at.ensures.small c.in_ok-turn.ensures c.in_ok-take_effect.ensures.counts;
}
