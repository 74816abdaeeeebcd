-- What is replayed, and then what is left, is the whole.
use Rattle.std.proofs.Common.{◌≡◌, length, drop}
use Rattle.gp_replay.specs.Feasible.{end_from, end_of}
use Rattle.gp_replay.proofs.running.replay.Given as goal

abbrev pub invariant-loop-place : goal.invariant-loop-place
invariant-loop-place l =
    (length l.state.counts ≡ length l.window.segments)
    × (end_from l.window l.place l.state (drop l.place l.schedule.events) ≡ end_of l.window l.schedule.events)
