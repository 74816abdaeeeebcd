-- All values up to the window are given at the end of the loop.
use Rattle.std.proofs.Common.{◌∙◌, sym, ap, [], filter}
use Rattle.std.proofs.lemmas.List.{drop_all}
use Rattle.gp_window.specs.WindowForm.{given_all}
use Rattle.gp_cut_files.specs.Values.{is_up_to}
use Rattle.gp_cut_files.proofs.UpTo.{values_up_to}
use Rattle.gp_cut_files.proofs.values.values_at.Goals as goal

pub returns : goal.returns
returns c =
    let items = c.values-given-items.result.now in
    let window = c.args.window in
    sym (ap (λ left. given_all c.loop-given.values (filter (is_up_to window) left)) (drop_all c.loop-given.given-index items c.loop-given-test.false))
    ∙ c.loop-given.invariant
    ∙ ap (λ given. given_all [] (filter (is_up_to window) given)) c.values-given-items.ensures.value
    ∙ values_up_to c.args.manifest.now c.values-given-items.ensures.rules window
