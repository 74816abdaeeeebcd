use Rattle.std.proofs.Common.{◌+◌, sym, ◌∙◌, length}
use Rattle.gp_report.specs.Reading.{read_windows}
use Rattle.gp_report.proofs.Fuel.{window_fewer, windows_go_on}
use Rattle.gp_report.proofs.reading.windows.read_windows.Goals as goal

pub loop-alloc-preserved : goal.loop-alloc-preserved
loop-alloc-preserved c =
    windows_go_on c.one_spelling.ensures c.event_ids_read_exactly.ensures c.args.end c.args.format c.len.result c.loop-alloc.lines c.read_window.new.lines c.loop-alloc.windows c.push.new.self c.in_ok-window.window
    (read_windows c.args.end c.args.format 1 (length c.args.lines.now) c.args.lines.now) c.len.ensures (sym c.is_at.ensures ∙ c.loop-alloc-test.true) c.in_ok-window.ensures c.in_ok-push.ensures.ok c.loop-alloc.invariant

pub loop-alloc-smaller : goal.loop-alloc-smaller
loop-alloc-smaller c =
    window_fewer c.one_spelling.ensures c.event_ids_read_exactly.ensures c.args.end c.args.format (c.len.result + 1) c.loop-alloc.lines c.in_ok-window.window c.read_window.new.lines c.in_ok-window.ensures
