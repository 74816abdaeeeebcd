use Rattle.std.proofs.Common.{subst, sym}
use Rattle.gp_sat.specs.State.{assigned}
use Rattle.gp_search.specs.declared.engine.Engine.{Engine}
use Rattle.gp_search.specs.Inside.{IsTurning}
use Rattle.gp_search.proofs.Choosing.{keeps_same, open_low, unassigned, goes_further, named_assumed, named_within, keeps_begun}
use Rattle.gp_search.proofs.Trails.{decided_on, assumed_decided}
use Rattle.gp_search.proofs.engine.Engine.assume.Goals as goal

pub refute_assumption-requires-clause-low : goal.refute_assumption-requires-clause-low
refute_assumption-requires-clause-low c = open_low c.args.asked.now.query.now.assumed c.args.self.now.solver c.args.self.now.assumed c.args.lit c.requires.turning.assuming c.requires.next

pub begin_level-requires-clause-named : goal.begin_level-requires-clause-named
begin_level-requires-clause-named c = named_within c.args.asked.now.problem.now c.args.asked.now.query.now c.args.self.now c.args.lit c.requires.turning c.requires.next.0

pub begin_level-requires-clause-free : goal.begin_level-requires-clause-free
begin_level-requires-clause-free c = unassigned (assigned c.args.self.now.solver c.args.lit.variable) c.value.result c.is_some.result c.value.ensures c.is_some.ensures c.if-is_some.false

pub returns-clause-turning : goal.returns-clause-turning
returns-clause-turning c =
    assumed_decided c.args.asked.now.problem.now c.args.asked.now.query.now c.args.self.now _ c.args.lit c.requires.turning c.in_ok-begin_level.ensures.sound c.requires.settled.all c.requires.next.0
    (unassigned (assigned c.args.self.now.solver c.args.lit.variable) c.value.result c.is_some.result c.value.ensures c.is_some.ensures c.if-is_some.false)
    (named_assumed c.args.asked.now.problem.now c.args.asked.now.query.now c.args.self.now c.args.lit c.requires.turning c.requires.next.0)
    (open_low c.args.asked.now.query.now.assumed c.args.self.now.solver c.args.self.now.assumed c.args.lit c.requires.turning.assuming c.requires.next)
    (decided_on c.args.self.now c.begin_level.new.self c.args.lit c.level-self.result c.in_ok-begin_level.ensures.ok) c.level-self.ensures

pub returns-clause-same : goal.returns-clause-same
returns-clause-same c =
    let kept = keeps_begun c.args.self.now c.begin_level.new.self c.args.lit c.in_ok-begin_level.ensures.ok in
    record { log = kept.log; begins = kept.begins; learned = kept.learned; variables = kept.variables }

pub returns-clause-found : goal.returns-clause-found
returns-clause-found c =
    goes_further c.args.self.now.solver _ c.args.lit _ c.requires.turning.sound c.in_ok-begin_level.ensures.ok.solver
    (named_within c.args.asked.now.problem.now c.args.asked.now.query.now c.args.self.now c.args.lit c.requires.turning c.requires.next.0)
    (unassigned (assigned c.args.self.now.solver c.args.lit.variable) c.value.result c.is_some.result c.value.ensures c.is_some.ensures c.if-is_some.false)

pub returns-in_err-last-clause-turning : goal.returns-in_err-last-clause-turning
returns-in_err-last-clause-turning c = subst (λ (e : Engine). IsTurning c.args.asked.now.problem.now c.args.asked.now.query.now e) (sym c.refute_assumption.ensures.same) c.requires.turning

pub returns-in_err-last-clause-same : goal.returns-in_err-last-clause-same
returns-in_err-last-clause-same c = keeps_same c.args.self.now c.refute_assumption.new.self c.refute_assumption.ensures.same
