use Rattle.std.proofs.Common.{◌≡◌, drop}
use Rattle.gp_base.specs.Results.{with_prefix}
use Rattle.gp_replay.specs.Schedule.{event_ids_of}
use Rattle.gp_replay.proofs.schedule.add_events.Given as goal

abbrev pub invariant-loop-word : goal.invariant-loop-word
invariant-loop-word l = with_prefix l.events (event_ids_of l.number (drop l.word-index l.words)) ≡ with_prefix l.initial.events (event_ids_of l.number l.words)
