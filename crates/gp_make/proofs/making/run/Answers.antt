use Rattle.std.proofs.Common.{◌≡◌, ◌≤◌, ◌+◌, ◌-◌, ◌∙◌, sym, ap, min, arith, append-nil}
use Rattle.gp_make.specs.declared.program.Program.{Program}
use Rattle.gp_make.specs.Run.{events_before, program_after, windows_of, start_values}
use Rattle.gp_make.specs.Texts.{start_lines}
use Rattle.gp_make.specs.Traces.{trace_lines}
use Rattle.gp_make.proofs.Growing.{all_put}
use Rattle.gp_make.proofs.Traces.{put_same}
use Rattle.gp_make.proofs.Runs.{all_windows, first_window, later_window, lines_through, no_event, values_at, values_told}
use Rattle.gp_make.proofs.making.run.Goals as goal

pub run_window-requires-clause-begun : goal.run_window-requires-clause-begun
run_window-requires-clause-begun c = c.new-program.ensures ∙ no_event c.args.recipe.now

pub loop-window-init : goal.loop-window-init
loop-window-init c =
    let recipe = c.args.recipe.now in
    record {
      within = omega arith;
      begun = c.in_ok-run_window.ensures.program;
      before = ap (λ (program : Program). program.values) (c.new-program.ensures ∙ no_event recipe);
      told = sym (append-nil c.args.manifest.now.items);
      put = first_window recipe c.args.traces.now c.run_window.new.traces c.in_ok-run_window.ensures.traces;
    }

pub loop-window-preserved : goal.loop-window-preserved
loop-window-preserved c =
    let recipe = c.args.recipe.now in
    let loop = c.loop-window in
    let window = loop.window in
    let above : 2 ≤ window = omega arith in
    let within : window ≤ windows_of recipe.events = omega (arith, c.windows-window-end.ensures, c.loop-window-test.true) in
    let place : 2 + (window - 2) ≡ window = omega (arith, above) in
    let next : window + 1 - 2 ≡ (window - 2) + 1 = omega (arith, above) in
    let same : window + 1 - 1 ≡ window = omega arith in
    let begins : events_before window + 200 ≡ events_before (window + 1) = omega (arith, above) in
    let values : loop.program.values ≡ start_values recipe window = values_at recipe loop.program window above within loop.invariant.begun in
    record {
      within = omega (arith, within, above);
      begun = c.in_ok-run_window-2.ensures.program ∙ ap (λ events. program_after recipe (min events recipe.events)) begins;
      before = values ∙ ap (start_values recipe) (sym same);
      told = values_told recipe loop.program loop.before c.args.manifest.now.items loop.manifest.items c.put_changes.new.text.items window (window - 2) (window + 1 - 2) place next values loop.invariant.before loop.invariant.told c.in_ok-put_changes.ensures;
      put = later_window recipe c.args.traces.now loop.traces c.put_marks.new.traces c.run_window-in-loop-window.new.traces window (window - 2) (window + 1 - 2) place next loop.invariant.put c.in_ok-put_marks.ensures c.in_ok-run_window-2.ensures.traces;
    }

pub returns-clause-manifest : goal.returns-clause-manifest
returns-clause-manifest c =
    let recipe = c.args.recipe.now in
    let count : c.loop-window.window - 2 ≡ windows_of recipe.events - 1 = omega (arith, c.windows-window-end.ensures, c.loop-window-test.false, c.loop-window.invariant.within) in
    all_put (start_lines recipe) c.args.manifest.now.items c.loop-window.manifest.items 2 (c.loop-window.window - 2) (windows_of recipe.events - 1) count c.loop-window.invariant.told

pub returns-clause-traces : goal.returns-clause-traces
returns-clause-traces c =
    let recipe = c.args.recipe.now in
    let count : c.loop-window.window - 2 ≡ windows_of recipe.events - 1 = omega (arith, c.windows-window-end.ensures, c.loop-window-test.false, c.loop-window.invariant.within) in
    put_same c.args.traces.now c.loop-window.traces (lines_through recipe (c.loop-window.window - 2)) (trace_lines recipe) c.loop-window.invariant.put
    (λ thread. ap (λ k. lines_through recipe k thread) count ∙ all_windows recipe thread c.requires.events)
