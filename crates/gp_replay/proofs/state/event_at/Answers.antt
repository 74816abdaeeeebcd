use Rattle.gp_replay.specs.SizeLaws.{found_is_small}
use Rattle.gp_replay.proofs.state.event_at.Goals as goal

pub returns-clause-small : goal.returns-clause-small
returns-clause-small c = found_is_small c.args.window.now c.args.id c.event.result c.comes_from_recording.ensures c.event.ensures
