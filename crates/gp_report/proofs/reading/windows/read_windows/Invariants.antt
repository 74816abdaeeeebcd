-- The windows that were read, and then those that are left, are all.
use Rattle.std.proofs.Common.{◌≡◌, ◌+◌, length}
use Rattle.gp_report.specs.Reading.{read_windows, with_front}
use Rattle.gp_report.proofs.reading.windows.read_windows.Given as goal

abbrev pub invariant-loop-alloc : goal.invariant-loop-alloc
invariant-loop-alloc l =
    with_front l.windows (read_windows l.end l.format (length l.windows + 1) (length l.lines) l.lines) ≡ read_windows l.end l.format 1 (length l.initial.lines) l.initial.lines

abbrev pub decreases-loop-alloc : goal.decreases-loop-alloc
decreases-loop-alloc l = length l.lines
