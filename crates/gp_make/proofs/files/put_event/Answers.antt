use Rattle.std.proofs.Common.{◌≡◌, [], ◌∷◌, ◌-◌, ap, get_or, set}
use Rattle.gp_make.specs.Traces.{TracesGrow, lines_of, with_lines}
use Rattle.gp_trace.specs.Printed.{event_words}
use Rattle.gp_make.specs.Texts.{told_event}
use Rattle.gp_make.proofs.Traces.{event_put, on_ok}
use Rattle.gp_make.proofs.files.put_event.Goals as goal

pub returns : goal.returns
returns c =
    let event = c.args.event in
    let traces = c.args.traces.now in
    let i = event.thread - 1 in
    let trace = get_or traces i c.index-traces-event.result in
    on_ok c.put.result
    (c.put.new.self ≡ with_lines trace (event_words (told_event event.action) ∷ []))
    (TracesGrow traces (set traces i c.put.new.self) (λ thread. lines_of thread (event ∷ [])))
    (event_put traces event trace c.put.new.self c.requires.first c.requires.last (ap (λ other. get_or traces i other) c.index-traces-event.is))
    c.put.ensures
