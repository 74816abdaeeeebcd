use Rattle.std.proofs.Common.{ap}
use Rattle.std.proofs.lemmas.List.{length-set}
use Rattle.std.proofs.Common.{◌≡◌, None, refl, sym, ◌∙◌, subst, ◌+◌, ◌<◌, length}
use Rattle.gp_sat.specs.State.{SolverForm, assigned, with_literal}
use Rattle.gp_sat.specs.Standing.{IsClosed}
use Rattle.gp_sat.specs.Sound.{IsSound}
use Rattle.gp_sat.proofs.Adding.{may_decide, sound_more}
use Rattle.gp_sat.proofs.Outer.{ready_decided}
use Rattle.gp_sat.proofs.Wholes.{whole}
use Rattle.gp_sat.proofs.solver.Solver.decide.Goals as goal

pub invariant_of-self : goal.invariant_of-self
invariant_of-self c =
    let s : SolverForm = c.make_ready.new.kernel in
    let same : c.args.self.now ≡ c.make_ready.new.kernel = sym (c.make_ready.ensures.same ∙ c.self.view_is) in
    let named : c.args.lit.variable < length c.make_ready.new.kernel.values = subst (λ (u : SolverForm). c.args.lit.variable < length u.values) same c.requires.named in
    let free : assigned c.make_ready.new.kernel c.args.lit.variable ≡ None = subst (λ (u : SolverForm). assigned u c.args.lit.variable ≡ None) same c.requires.free in
    let closed : IsClosed c.make_ready.new.kernel c.make_ready.new.kernel.level = subst (λ (u : SolverForm). IsClosed u u.level) same c.requires.closed in
    let sound : IsSound (with_literal c.make_ready.new.kernel c.args.lit (c.make_ready.new.kernel.level + 1) None) =
    sound_more c.make_ready.new.kernel c.args.lit (c.make_ready.new.kernel.level + 1) None (may_decide c.make_ready.new.kernel c.args.lit (c.make_ready.new.kernel.level + 1) refl named free closed c.make_ready.ensures.ready.idle.sound) c.make_ready.ensures.ready.idle.sound in
    whole c.self.inside.kernel c.decide.new.self c.self.inside.watches c.make_ready.new.watches c.self.inside.marking (ap (λ (t : SolverForm). length t.values) c.decide.ensures ∙ length-set c.make_ready.new.kernel.values c.args.lit.variable _ ∙ ap (λ (t : SolverForm). length t.values) c.make_ready.ensures.same) c.self.invariant
    (ready_decided c.make_ready.new.kernel c.decide.new.self c.make_ready.new.watches c.args.lit (c.make_ready.new.kernel.level + 1) c.decide.ensures (subst (λ (u : SolverForm). IsSound u) (sym c.decide.ensures) sound) named free c.make_ready.ensures.end c.make_ready.ensures.ready)

pub returns-clause-sound : goal.returns-clause-sound
returns-clause-sound c =
    let s : SolverForm = c.make_ready.new.kernel in
    let same : c.args.self.now ≡ c.make_ready.new.kernel = sym (c.make_ready.ensures.same ∙ c.self.view_is) in
    let named : c.args.lit.variable < length c.make_ready.new.kernel.values = subst (λ (u : SolverForm). c.args.lit.variable < length u.values) same c.requires.named in
    let free : assigned c.make_ready.new.kernel c.args.lit.variable ≡ None = subst (λ (u : SolverForm). assigned u c.args.lit.variable ≡ None) same c.requires.free in
    let closed : IsClosed c.make_ready.new.kernel c.make_ready.new.kernel.level = subst (λ (u : SolverForm). IsClosed u u.level) same c.requires.closed in
    let sound : IsSound (with_literal c.make_ready.new.kernel c.args.lit (c.make_ready.new.kernel.level + 1) None) =
    sound_more c.make_ready.new.kernel c.args.lit (c.make_ready.new.kernel.level + 1) None (may_decide c.make_ready.new.kernel c.args.lit (c.make_ready.new.kernel.level + 1) refl named free closed c.make_ready.ensures.ready.idle.sound) c.make_ready.ensures.ready.idle.sound in
    subst (λ (u : SolverForm). IsSound u) (sym c.decide.ensures) sound
