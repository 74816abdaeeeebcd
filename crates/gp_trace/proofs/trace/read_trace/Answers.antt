-- A text has few enough lines.
use Rattle.gp_trace.proofs.Fits.{few_lines}
use Rattle.gp_trace.proofs.trace.read_trace.Goals as goal

pub read_entries-requires : goal.read_entries-requires
read_entries-requires c = rw c.of.ensures (few_lines c.args.bytes.now c.requires)
