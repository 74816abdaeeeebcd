use Rattle.std.proofs.Common.{◌∷◌, [], ap, codes, get_or, arith}
use Rattle.std.proofs.lemmas.List.Edits.{map_over_more}
use Rattle.gp_make.specs.Traces.{with_lines}
use Rattle.gp_files.specs.MadeFileForm.{MadeFileForm}
use Rattle.gp_make.proofs.Traces.{marks_put}
use Rattle.gp_make.proofs.files.put_marks.Goals as goal

pub loop-trace-preserved : goal.loop-trace-preserved
loop-trace-preserved c =
    let marked : MadeFileForm → MadeFileForm = λ trace. with_lines trace ((codes "mark" ∷ []) ∷ []) in
    let traces = c.loop-trace.traces in
    let i = c.loop-trace.trace-index in
    rw c.in_ok-mark.ensures
    (map_over_more marked c.args.traces.now traces i (get_or traces i c.trace-item.result) c.loop-trace-test.true c.loop-trace.invariant (ap (λ trace. get_or traces i trace) c.trace-item.is))

pub returns : goal.returns
returns c =
    marks_put c.args.traces.now c.loop-trace.traces ((codes "mark" ∷ []) ∷ []) c.loop-trace.trace-index (omega arith) c.loop-trace.invariant
