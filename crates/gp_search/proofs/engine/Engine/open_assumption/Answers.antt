use Rattle.std.proofs.Common.{refl, ap, subst, ◌+◌, ◌<◌, ◌≤◌, List, All, get_or, length, false, arith}
use Rattle.std.proofs.lemmas.List.{take_all}
use Rattle.std.proofs.lemmas.List.Elements.{All-contains}
use Rattle.gp_clause.specs.declared.lit.Lit.{Lit}
use Rattle.gp_sat.specs.State.{assigned}
use Rattle.gp_sat.specs.Looking.{IsTrueLit}
use Rattle.gp_search.specs.declared.engine.Engine.{Engine}
use Rattle.gp_search.proofs.Trails.{passed_next}
use Rattle.gp_search.proofs.engine.Engine.open_assumption.Goals as goal

-- the literal that stands for none
abbrev no_lit : Lit
no_lit = record { variable = 0; positive = false }

pub loop-self-preserved : goal.loop-self-preserved
loop-self-preserved c =
    let within : c.loop-self.self.next < length c.args.asked.now.query.now.assumed = omega (arith, c.loop-self-test.true, ap (λ (ls : List Lit). length ls) c.as_slice-assumed.ensures) in
    let P : List Lit → Type 0 = λ ls. IsTrueLit (assigned c.loop-self.self.solver) (get_or ls c.loop-self.self.next no_lit) in
    record {
      turning = passed_next c.args.asked.now.problem.now c.args.asked.now.query.now c.loop-self.self no_lit _ c.loop-self.invariant.turning within (subst P c.as_slice-assumed.ensures (c.is_true.ensures.0 c.if-not-is_true.false)) refl;
      same = ap (λ (e : Engine). record e { next = c.loop-self.self.next + 1 }) c.loop-self.invariant.same;
    }

pub returns-clause-open : goal.returns-clause-open
returns-clause-open c = λ lit among.
    let past : length c.args.asked.now.query.now.assumed ≤ c.loop-self.self.next = omega (arith, c.loop-self-test.false, ap (λ (ls : List Lit). length ls) c.as_slice-assumed.ensures) in
    let all : All (IsTrueLit (assigned c.loop-self.self.solver)) c.args.asked.now.query.now.assumed =
    let P : List Lit → Type 0 = λ ls. All (IsTrueLit (assigned c.loop-self.self.solver)) ls in subst P (take_all c.loop-self.self.next c.args.asked.now.query.now.assumed past) c.loop-self.invariant.turning.levels.passed in
    All-contains (IsTrueLit (assigned c.loop-self.self.solver)) c.args.asked.now.query.now.assumed lit all among
