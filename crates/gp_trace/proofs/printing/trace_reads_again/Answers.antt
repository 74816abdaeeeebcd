use Rattle.gp_trace.proofs.Again.{trace_again}
use Rattle.gp_trace.proofs.printing.trace_reads_again.Goals as goal

pub returns : goal.returns
returns c = trace_again c.one_spelling.ensures c.plain_words.ensures c.reads_again.ensures
