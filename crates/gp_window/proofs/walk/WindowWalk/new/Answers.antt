-- A walk begins with what it carries at window 1.
use Rattle.std.proofs.Common.{◌≡◌, ◌∙◌, refl, ap}
use Rattle.gp_window.specs.ManifestForm.{ManifestForm}
use Rattle.gp_window.proofs.Carried.{carried_first}
use Rattle.gp_window.proofs.walk.WindowWalk.new.Goals as goal

pub invariant_of-result : goal.invariant_of-result
invariant_of-result c =
    let given : c.values.result.now ≡ c.args.recording.now.manifest.values =
    c.values.ensures.value ∙ ap (λ (m : ManifestForm). m.values) c.manifest.ensures.value in
    carried_first c.args.recording.now c.take_values.new.values c.in_ok-later.later.now c.new.result c.new-2.result c.manifest.ensures.rules
    (c.in_ok-later.ensures.values ∙ rw (c.new-values.ensures, given) refl)
    (c.in_ok-later.ensures.later ∙ rw given refl)
    c.new.ensures c.new-2.ensures
