use Rattle.std.proofs.Common.{◌≡◌, ◌++◌, ◌∷◌, [], take, drop, map, codes}
use Rattle.gp_make.specs.Traces.{with_lines}
use Rattle.gp_make.proofs.files.put_marks.Given as goal

abbrev pub invariant-loop-trace : goal.invariant-loop-trace
invariant-loop-trace l =
    l.traces ≡ map (λ trace. with_lines trace ((codes "mark" ∷ []) ∷ [])) (take l.trace-index l.initial.traces) ++ drop l.trace-index l.initial.traces
