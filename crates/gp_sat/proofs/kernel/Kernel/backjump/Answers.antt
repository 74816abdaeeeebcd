use Rattle.std.proofs.Common.{sym, ap, subst, ◌≤◌, length, arith}
use Rattle.gp_sat.specs.State.{SolverForm, assigned}
use Rattle.gp_sat.specs.Levels.{IsEndOf}
use Rattle.gp_sat.proofs.Consisting.{back_parts, cut_parts, lent_named, taken_back}
use Rattle.gp_sat.proofs.kernel.Kernel.backjump.Goals as goal

pub take_back-requires-clause-named : goal.take_back-requires-clause-named
take_back-requires-clause-named c = lent_named _ _ c.as_slice.ensures.value c.self.invariant.sound

pub invariant_of-self : goal.invariant_of-self
invariant_of-self c =
    let ends = subst (λ (s : SolverForm). IsEndOf (assigned s) (length s.trail) c.args.level c.end_of-end.result) (sym c.self.view_is) c.end_of-end.ensures in
    let below : c.args.level ≤ c.self.inside.level = omega (arith, c.requires, ap (λ (s : SolverForm). s.level) c.self.view_is) in
    cut_parts _ c.args.level c.end_of-end.result _ _ _ _ _ _ _ _ _ _ below ends
    (taken_back _ c.end_of-end.result _ _ c.as_slice.ensures.value c.take_back.ensures.size c.take_back.ensures.gone c.take_back.ensures.kept)
    c.truncate.ensures.items c.truncate-2.ensures.items c.first-self-inside.ensures.first c.truncate.ensures.capacity c.truncate-2.ensures.capacity c.self.invariant

pub returns-clause-back : goal.returns-clause-back
returns-clause-back c =
    let ends = subst (λ (s : SolverForm). IsEndOf (assigned s) (length s.trail) c.args.level c.end_of-end.result) (sym c.self.view_is) c.end_of-end.ensures in
    back_parts _ _ c.args.level c.end_of-end.result _ _ c.self.view_is c.self.invariant.sound ends
    (taken_back _ c.end_of-end.result _ _ c.as_slice.ensures.value c.take_back.ensures.size c.take_back.ensures.gone c.take_back.ensures.kept)
    c.truncate.ensures.items

pub returns-clause-sound : goal.returns-clause-sound
returns-clause-sound c =
    let ends = subst (λ (s : SolverForm). IsEndOf (assigned s) (length s.trail) c.args.level c.end_of-end.result) (sym c.self.view_is) c.end_of-end.ensures in
    let below : c.args.level ≤ c.self.inside.level = omega (arith, c.requires, ap (λ (s : SolverForm). s.level) c.self.view_is) in
    let after = cut_parts _ c.args.level c.end_of-end.result _ _ _ _ _ _ _ _ _ _ below ends
    (taken_back _ c.end_of-end.result _ _ c.as_slice.ensures.value c.take_back.ensures.size c.take_back.ensures.gone c.take_back.ensures.kept)
    c.truncate.ensures.items c.truncate-2.ensures.items c.first-self-inside.ensures.first c.truncate.ensures.capacity c.truncate-2.ensures.capacity c.self.invariant in
    after.sound
