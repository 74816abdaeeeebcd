use Rattle.std.proofs.Common.{◌≡◌, drop}
use Rattle.gp_instance.specs.Threads.{with_threads}
use Rattle.gp_instance.proofs.threads.with_threads.Given as goal

abbrev pub invariant-loop-thread : goal.invariant-loop-thread
invariant-loop-thread l = with_threads l.all (drop l.thread-index l.more) ≡ with_threads l.threads l.more
