use Rattle.std.proofs.Common.{◌≡◌, refl, sym, subst, None, Some, List, get_or, false}
use Rattle.gp_clause.specs.declared.lit.Lit.{Lit}
use Rattle.gp_difference.specs.Bounds.{tagged}
use Rattle.gp_difference.specs.Graph.{IsKept, IsRefused}
use Rattle.gp_clause.specs.Kind.{bound_at}
use Rattle.gp_search.specs.Inside.{all_kinds}
use Rattle.gp_search.proofs.Asserting.{asserted_some, asserted_none, cycle_conflict, room_for_next, lit_within}
use Rattle.gp_search.proofs.engine.Engine.assert_next.Goals as goal

-- the literal that stands for none
abbrev no_lit : Lit
no_lit = record { variable = 0; positive = false }

pub returns-in_default-clause-turning : goal.returns-in_default-clause-turning
returns-in_default-clause-turning c =
    let P : List Lit → Type 0 = λ ls. bound_at (all_kinds c.args.asked.now.problem.now c.args.asked.now.query.now) (get_or ls c.args.self.now.asserted no_lit) ≡ None in
    asserted_none c.args.asked.now.problem.now c.args.asked.now.query.now c.args.self.now no_lit _ c.requires.turning c.requires.left (subst P c.trail.ensures.trail (sym c.in_default.ensures)) refl

pub assert-requires-clause-room : goal.assert-requires-clause-room
assert-requires-clause-room c = room_for_next _ _ c.args.self.now c.requires.turning c.requires.left

pub assert-requires-clause-within : goal.assert-requires-clause-within
assert-requires-clause-within c =
    lit_within c.args.asked.now.problem.now c.args.asked.now.query.now c.args.self.now (get_or c.trail.result.now c.args.self.now.asserted no_lit) c.in-Some.edge c.requires.turning (sym c.in-Some.ensures)

pub returns-in-Kept-clause-turning : goal.returns-in-Kept-clause-turning
returns-in-Kept-clause-turning c =
    let P : List Lit → Type 0 = λ ls. bound_at (all_kinds c.args.asked.now.problem.now c.args.asked.now.query.now) (get_or ls c.args.self.now.asserted no_lit) ≡ Some c.in-Some.edge in
    let Q : List Lit → Type 0 = λ ls. IsKept c.args.self.now.graph (tagged c.in-Some.edge (get_or ls c.args.self.now.asserted no_lit).variable) c.assert.new.self in
    asserted_some c.args.asked.now.problem.now c.args.asked.now.query.now c.args.self.now c.assert.new.self no_lit c.in-Some.edge _ c.requires.turning c.requires.left
    (subst P c.trail.ensures.trail (sym c.in-Some.ensures)) (subst Q c.trail.ensures.trail c.in-Kept.ensures) refl

pub returns-in-Cycle-clause-answer : goal.returns-in-Cycle-clause-answer
returns-in-Cycle-clause-answer c =
    let P : List Lit → Type 0 = λ ls. bound_at (all_kinds c.args.asked.now.problem.now c.args.asked.now.query.now) (get_or ls c.args.self.now.asserted no_lit) ≡ Some c.in-Some.edge in
    let Q : List Lit → Type 0 = λ ls. IsRefused c.args.self.now.graph (tagged c.in-Some.edge (get_or ls c.args.self.now.asserted no_lit).variable) c.assert.new.self in
    cycle_conflict c.args.asked.now.problem.now c.args.asked.now.query.now c.args.self.now c.assert.new.self no_lit c.in-Some.edge c.requires.turning c.requires.left
    (subst P c.trail.ensures.trail (sym c.in-Some.ensures)) (subst Q c.trail.ensures.trail c.in-Cycle.ensures)
