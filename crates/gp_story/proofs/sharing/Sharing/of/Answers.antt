-- What was touched tells the sharing.
use Rattle.std.proofs.Common.{◌∙◌, ap, length}
use Rattle.gp_window.specs.WindowForm.{held_at_start, numbers_from, WindowForm}
use Rattle.gp_story.specs.Deeds.{variable_of}
use Rattle.gp_story.specs.Touched.{Touches, with_holdings, with_threads}
use Rattle.gp_story.proofs.Touching.{told_by}
use Rattle.gp_story.proofs.sharing.Sharing.of.Goals as goal

pub touch_all-requires : goal.touch_all-requires
touch_all-requires c = c.windows_are_formed.ensures c.args.window.now c.comes_from_recording.ensures

pub invariant_of-result : goal.invariant_of-result
invariant_of-result c =
    let window : WindowForm = c.args.window.now in
    told_by window c.touch_all.new.variables c.touch_all.new.locks c.touch_held.new.locks
    (c.in_ok-touch_held.ensures ∙ ap (λ (touches : Touches). with_holdings touches (held_at_start window)) c.new-locks.ensures)
    (c.in_ok-touch_all.ensures.variables ∙ ap (λ (touches : Touches). with_threads variable_of window touches (numbers_from 1 (length window.segments))) c.new-variables.ensures)
    c.in_ok-touch_all.ensures.locks
