use Rattle.std.proofs.Common.{◌-◌, ◌+◌}
use Rattle.gp_report.specs.Reading.{read_entries, read_entry}
use Rattle.gp_report.proofs.Loops.{entries_split, goes_on}
use Rattle.gp_report.proofs.reading.answers.read_entries.Goals as goal

pub loop-due-preserved : goal.loop-due-preserved
loop-due-preserved c =
    let due = c.loop-due.due in
    let left = c.args.count - (due + 1) in
    rw c.in_ok-push.ensures.ok
    (goes_on c.loop-due.entries (read_entries c.args.end due (c.args.count - due) c.loop-due.lines) (read_entries c.args.end 0 c.args.count c.args.lines.now) (read_entry c.args.end due c.loop-due.lines) (read_entries c.args.end (due + 1) left) c.in_ok-entry.entry c.read_entry.new.lines
    (entries_split c.args.end due c.args.count c.loop-due.lines c.loop-due-test.true) c.in_ok-entry.ensures c.loop-due.invariant)
