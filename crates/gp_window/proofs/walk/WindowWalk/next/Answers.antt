-- What a walk carries goes on by one segment of each trace and by the values of one window.
use Rattle.std.proofs.Common.{◌∙◌, refl, ap, ◌<◌}
use Rattle.gp_window.specs.Walk.{WalkForm}
use Rattle.gp_window.proofs.Carried.{carried_on}
use Rattle.gp_window.proofs.walk.WindowWalk.next.Goals as goal

pub invariant_of-result : goal.invariant_of-result
invariant_of-result c =
    let below : c.self.inside.number < c.self.inside.recording.now.manifest.epochs =
    rw (ap (λ (w : WalkForm). w.number) c.self.view_is, ap (λ (w : WalkForm). w.recording.manifest.epochs) c.self.view_is) c.requires in
    carried_on c.self.inside.recording.now c.self.inside.number
    c.self.inside.values c.take_values.new.values c.self.inside.later.now c.in_ok-later.later.now
    c.self.inside.holders _ c.self.inside.started c.add_started.new.started
    c.self.invariant below
    c.in_ok-later.ensures.values c.in_ok-later.ensures.later
    (c.in_ok-holders.ensures ∙ rw c.traces.ensures.value refl)
    (c.in_ok-add_started.ensures ∙ rw c.traces-2.ensures.value refl)
