-- What the walk reached is a trace.
use Rattle.gp_trace.proofs.Reached.{a_trace, told}
use Rattle.gp_trace.specs.Walk.{after_lines, at_start}
use Rattle.gp_trace.proofs.trace.read_entries.Goals as goal

pub invariant_of-result : goal.invariant_of-result
invariant_of-result c =
    rw (c.in_ok-push.ensures.ok, c.shrunk.ensures)
    (a_trace c.args.format c.args.thread c.args.marks c.args.lines c.in_ok-ended.field-0 c.requires
    (told c.walk_lines.result c.in_ok-ended.field-0 (after_lines c.args.format c.args.thread c.args.marks at_start c.args.lines) c.in_ok-ended.was c.walk_lines.ensures))
