use Rattle.std.proofs.Common.{◌≡◌, [], drop}
use Rattle.gp_instance.specs.Threads.{few_threads}
use Rattle.gp_instance.proofs.threads.few_threads.Given as goal

abbrev pub invariant-loop-id : goal.invariant-loop-id
invariant-loop-id l = few_threads l.limit l.threads (drop l.id-index l.ids) ≡ few_threads l.limit [] l.ids
