-- The first lock that two threads hold over a mark is told, since holdings stand in the order of the locks.
use Rattle.gp_window.proofs.HeldRising.{over_rises}
use Rattle.gp_window.proofs.MarksTold.{first_told, held_none, none_held, told_first}
use Rattle.gp_window.proofs.laws.marks_mean.Goals as goal

pub returns : goal.returns
returns c = record {
  first = λ epochs traces fault. (first_told epochs traces fault (over_rises traces), told_first epochs traces fault (over_rises traces));
  none = λ epochs traces. (none_held epochs traces, held_none epochs traces (over_rises traces));
}
