use Rattle.std.proofs.Common.{◌≡◌, rules}
use Rattle.gp_trace.specs.Printed.{trace_text}
use Rattle.gp_trace.proofs.printing.print_trace.Goals as goal

pub returns-clause-again : goal.returns-clause-again
returns-clause-again c = λ format belongs.
    let text : c.from_vec.result ≡ trace_text c.args.trace.now = search rules in
    rw text (c.trace_reads_again.ensures format c.args.trace.now c.segments-segments.ensures.trace belongs)
