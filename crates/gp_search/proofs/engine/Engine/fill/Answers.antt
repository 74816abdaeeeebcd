use Rattle.std.proofs.Common.{sym, ◌∙◌, ap, subst, ◌+◌, ◌<◌, None, length, arith}
use Rattle.gp_clause.specs.declared.lit.Lit.{Lit}
use Rattle.gp_sat.specs.State.{assigned, with_literal}
use Rattle.gp_search.specs.declared.engine.Engine.{Engine}
use Rattle.gp_search.specs.Inside.{all_kinds, IsTurning, IsSettled}
use Rattle.gp_search.specs.Moves.{IsAllTrue}
use Rattle.gp_search.proofs.Choosing.{all_assigned, goes_further, keeps_same, keeps_on, keeps_begun}
use Rattle.gp_search.proofs.Trails.{decided_on, free_decided}
use Rattle.gp_search.proofs.engine.Engine.fill.Goals as goal

pub model-requires-clause-turning : goal.model-requires-clause-turning
model-requires-clause-turning c = subst (λ (e : Engine). IsTurning c.args.asked.now.problem.now c.args.asked.now.query.now e) (sym c.free_variable.ensures.same) c.requires.turning

pub model-requires-clause-settled : goal.model-requires-clause-settled
model-requires-clause-settled c = subst (λ (e : Engine). IsSettled e) (sym c.free_variable.ensures.same) c.requires.settled

pub model-requires-clause-all : goal.model-requires-clause-all
model-requires-clause-all c = all_assigned c.args.asked.now.problem.now c.args.asked.now.query.now c.args.self.now c.free_variable.new.self c.requires.turning c.free_variable.ensures.same c.in-None.ensures.free

pub model-requires-clause-assumed : goal.model-requires-clause-assumed
model-requires-clause-assumed c = subst (λ (e : Engine). IsAllTrue c.args.asked.now.query.now.assumed e.solver) (sym c.free_variable.ensures.same) c.requires.assumed

pub begin_level-requires-clause-turning : goal.begin_level-requires-clause-turning
begin_level-requires-clause-turning c = subst (λ (e : Engine). IsTurning c.args.asked.now.problem.now c.args.asked.now.query.now e) (sym c.free_variable.ensures.same) c.requires.turning

pub begin_level-requires-clause-settled : goal.begin_level-requires-clause-settled
begin_level-requires-clause-settled c = subst (λ (e : Engine). IsSettled e) (sym c.free_variable.ensures.same) c.requires.settled

pub begin_level-requires-clause-named : goal.begin_level-requires-clause-named
begin_level-requires-clause-named c = omega (arith, c.in-Some.ensures.free.within, c.requires.turning.used, c.requires.turning.variables, ap (λ (e : Engine). length e.solver.values) c.free_variable.ensures.same)

pub begin_level-requires-clause-free : goal.begin_level-requires-clause-free
begin_level-requires-clause-free c = ap (λ (e : Engine). assigned e.solver c.in-Some.variable) c.free_variable.ensures.same ∙ c.in-Some.ensures.free.free

pub returns-in_err-begin_level-in-Some-clause-same : goal.returns-in_err-begin_level-in-Some-clause-same
returns-in_err-begin_level-in-Some-clause-same c =
    keeps_on c.args.self.now c.free_variable.new.self c.begin_level.new.self (keeps_same c.args.self.now c.free_variable.new.self c.free_variable.ensures.same) c.in_err-begin_level-in-Some.ensures.same

pub returns-in_ok-begin_level-in-Some-clause-turning : goal.returns-in_ok-begin_level-in-Some-clause-turning
returns-in_ok-begin_level-in-Some-clause-turning c =
    let lit : Lit = record { variable = c.in-Some.variable; positive = c.phase-positive.result } in
    let below : c.in-Some.variable < length (all_kinds c.args.asked.now.problem.now c.args.asked.now.query.now) = omega (arith, c.in-Some.ensures.free.within, c.requires.turning.used) in
    let settled : IsSettled c.free_variable.new.self = subst (λ (e : Engine). IsSettled e) (sym c.free_variable.ensures.same) c.requires.settled in
    free_decided c.args.asked.now.problem.now c.args.asked.now.query.now c.free_variable.new.self c.begin_level.new.self lit
    (subst (λ (e : Engine). IsTurning c.args.asked.now.problem.now c.args.asked.now.query.now e) (sym c.free_variable.ensures.same) c.requires.turning)
    c.in_ok-begin_level-in-Some.ensures.sound settled.all (subst (λ (e : Engine). IsAllTrue c.args.asked.now.query.now.assumed e.solver) (sym c.free_variable.ensures.same) c.requires.assumed)
    (ap (λ (e : Engine). assigned e.solver c.in-Some.variable) c.free_variable.ensures.same ∙ c.in-Some.ensures.free.free) below
    (decided_on c.free_variable.new.self c.begin_level.new.self lit c.begin_level.new.self.assumed c.in_ok-begin_level-in-Some.ensures.ok) (ap (λ (e : Engine). e.assumed) c.in_ok-begin_level-in-Some.ensures.ok.same)

pub returns-in_ok-begin_level-in-Some-clause-same : goal.returns-in_ok-begin_level-in-Some-clause-same
returns-in_ok-begin_level-in-Some-clause-same c =
    keeps_on c.args.self.now c.free_variable.new.self c.begin_level.new.self (keeps_same c.args.self.now c.free_variable.new.self c.free_variable.ensures.same)
    (keeps_begun c.free_variable.new.self c.begin_level.new.self (record { variable = c.in-Some.variable; positive = c.phase-positive.result }) c.in_ok-begin_level-in-Some.ensures.ok)

pub returns-in_ok-begin_level-in-Some-clause-first : goal.returns-in_ok-begin_level-in-Some-clause-first
returns-in_ok-begin_level-in-Some-clause-first c =
    let lit : Lit = record { variable = c.in-Some.variable; positive = c.phase-positive.result } in
    record {
      lit = lit;
      next = c.in-Some.ensures.free;
      decided = c.in_ok-begin_level-in-Some.ensures.ok.solver ∙ ap (λ (e : Engine). with_literal e.solver lit (e.solver.level + 1) None) c.free_variable.ensures.same;
    }

pub returns-in_ok-begin_level-in-Some-clause-found : goal.returns-in_ok-begin_level-in-Some-clause-found
returns-in_ok-begin_level-in-Some-clause-found c =
    let lit : Lit = record { variable = c.in-Some.variable; positive = c.phase-positive.result } in
    goes_further c.args.self.now.solver _ lit _ c.requires.turning.sound (c.in_ok-begin_level-in-Some.ensures.ok.solver ∙ ap (λ (e : Engine). with_literal e.solver lit (e.solver.level + 1) None) c.free_variable.ensures.same)
    (omega (arith, c.in-Some.ensures.free.within, c.requires.turning.used, c.requires.turning.variables)) c.in-Some.ensures.free.free
