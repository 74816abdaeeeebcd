use Rattle.std.proofs.Common.{◌≡◌, drop}
use Rattle.gp_base.specs.Results.{with_prefix}
use Rattle.gp_replay.specs.Schedule.{events_of}
use Rattle.gp_replay.proofs.schedule.events_of.Given as goal

abbrev pub invariant-loop-line : goal.invariant-loop-line
invariant-loop-line l = with_prefix l.events (events_of (drop l.line-index l.lines)) ≡ events_of l.lines
