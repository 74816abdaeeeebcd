use Rattle.std.proofs.Common.{◌≡◌, ◌++◌, [], drop, length}
use Rattle.gp_instance.specs.Threads.{thread_sets}
use Rattle.gp_instance.proofs.threads.thread_sets.Given as goal

abbrev pub invariant-loop-place : goal.invariant-loop-place
invariant-loop-place l =
    l.sets ++ thread_sets (length l.atoms) l.before (drop l.place l.atoms) (drop l.place l.domains) ≡ thread_sets (length l.atoms) [] l.atoms l.domains
