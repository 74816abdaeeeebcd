use Rattle.std.proofs.Common.{◌≡◌, ◌+◌, length, sum_by}
use Rattle.gp_analysis.specs.Tickets.{window_count}
use Rattle.gp_analysis.proofs.counting.windows_count.Given as goal

abbrev pub decreases-loop-window : goal.decreases-loop-window
decreases-loop-window g l = length l.windows

abbrev pub invariant-loop-window : goal.invariant-loop-window
invariant-loop-window g l =
    l.count + sum_by (window_count (g.Q.Question.form l.question) l.counted) l.windows ≡ sum_by (window_count (g.Q.Question.form l.question) l.counted) l.initial.windows
