use Rattle.std.proofs.Common.{◌∙◌}
use Rattle.gp_trace.proofs.Texts.{on_ok, segment_text}
use Rattle.gp_trace.proofs.printing.put_segments.Goals as goal

pub returns : goal.returns
returns c =
    on_ok c.put_later.result
    (λ e. e ∙ rw (c.in_ok-put_exit.ensures, c.in_ok-put_events.ensures, c.as_slice.ensures) (segment_text c.args.out.now.items c.args.exit_in c.in-Some.first.now c.in-Some.later.now c.args.segments.now c.in-Some.ensures.cases.0))
    c.put_later.ensures
