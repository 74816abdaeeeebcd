-- One more thread is kept where it is chosen.
use Rattle.std.proofs.Common.{◌+◌, ◌<◌, rules}
use Rattle.gp_window.specs.WindowForm.{chosen, numbers_from}
use Rattle.gp_cut_files.proofs.Chosen.{one_thread}
use Rattle.gp_cut_files.proofs.started.among.Goals as goal

pub loop-thread-preserved : goal.loop-thread-preserved
loop-thread-preserved c =
    let below : c.loop-thread.thread < c.args.threads + 1 = search rules in
    rw (c.in_ok-keep_thread.ensures, c.is_chosen.ensures)
    (one_thread c.args.roots.now c.args.started.now c.loop-thread.row (chosen c.args.roots.now c.args.started.now (numbers_from 1 c.args.threads)) c.loop-thread.thread c.args.threads below c.loop-thread.invariant)
