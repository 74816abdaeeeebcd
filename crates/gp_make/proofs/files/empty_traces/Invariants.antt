use Rattle.std.proofs.Common.{◌≡◌, []}
use Rattle.gp_make.specs.Traces.{traces_with}
use Rattle.gp_make.proofs.files.empty_traces.Given as goal

abbrev pub invariant-loop-thread : goal.invariant-loop-thread
invariant-loop-thread l = l.traces.items ≡ traces_with l.thread (λ _. [])
