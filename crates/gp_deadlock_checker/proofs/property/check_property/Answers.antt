use Rattle.std.proofs.Common.{sym, ◌∙◌, inl, codes}
use Rattle.std.proofs.lemmas.Bool.{false≢true}
use Rattle.std.proofs.lemmas.Result.{IfOk-weaker}
use Rattle.gp_stuck.specs.Cycles.{due_cycles}
use Rattle.gp_deadlock_checker.specs.Finds.{FindsListed, FindsProperty}
use Rattle.gp_deadlock_checker.proofs.Finds.{of_property_is, property_found}
use Rattle.gp_deadlock_checker.proofs.property.check_property.Goals as goal

pub returns-then-not-is_deadlock-clause-found : goal.returns-then-not-is_deadlock-clause-found
returns-then-not-is_deadlock-clause-found c =
    inl (of_property_is c.of.result 0 c.of.ensures, λ same. false≢true (sym c.if-not-is_deadlock.true ∙ c.is_deadlock.ensures.1 same))

pub returns-clause-found : goal.returns-clause-found
returns-clause-found c =
    let basis = c.args.checker.now in
    let told = c.args.told.now in
    IfOk-weaker c.check_body.result (FindsListed basis (due_cycles basis.window) told.body) (FindsProperty basis (codes "deadlock") told)
    (property_found basis (codes "deadlock") told (c.is_deadlock.ensures.0 c.if-not-is_deadlock.false)) c.check_body.ensures.found
