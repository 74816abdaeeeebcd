use Rattle.std.proofs.Common.{◌≡◌, ◌++◌, ◌+◌, ◌-◌}
use Rattle.gp_window.specs.WindowForm.{chosen, numbers_from}
use Rattle.gp_cut_files.proofs.started.among.Given as goal

abbrev pub invariant-loop-thread : goal.invariant-loop-thread
invariant-loop-thread l =
    l.row ++ chosen l.roots l.started (numbers_from l.thread (l.threads + 1 - l.thread)) ≡ chosen l.roots l.started (numbers_from 1 l.threads)
