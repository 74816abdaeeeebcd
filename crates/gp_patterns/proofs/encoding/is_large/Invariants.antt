use Rattle.std.proofs.Common.{◌≡◌, ◌+◌, drop}
use Rattle.gp_patterns.proofs.Sizes.{size_all}
use Rattle.gp_patterns.proofs.encoding.is_large.Given as goal

-- what is left to the limit, with the events so far, is the limit
abbrev pub invariant-loop-segment : goal.invariant-loop-segment
invariant-loop-segment l = 2048 + size_all (drop l.segment-index l.segment-items) ≡ l.room + size_all l.segment-items
