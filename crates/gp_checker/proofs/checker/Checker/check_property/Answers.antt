use Rattle.std.proofs.Common.{sym, ◌∙◌, inl}
use Rattle.std.proofs.lemmas.Bool.{false≢true}
use Rattle.std.proofs.lemmas.Result.{IfOk-weaker}
use Rattle.gp_instance.specs.Instances.{due_instances}
use Rattle.gp_checker.specs.Finds.{FindsListed, FindsProperty}
use Rattle.gp_checker.proofs.Finds.{of_property_is, property_found}
use Rattle.gp_checker.proofs.checker.Checker.check_property.Goals as goal

pub returns-then-not-is_same_name-clause-found : goal.returns-then-not-is_same_name-clause-found
returns-then-not-is_same_name-clause-found c =
    inl (of_property_is c.of.result 0 c.of.ensures, λ same. false≢true (sym c.if-not-is_same_name.true ∙ c.is_same_name.ensures.1 (same ∙ sym c.name.ensures.value)))

pub returns-clause-found : goal.returns-clause-found
returns-clause-found c =
    let basis = c.args.self.now in
    let property = c.args.property.now in
    let told = c.args.told.now in
    IfOk-weaker c.check_body.result (FindsListed basis property (due_instances basis.window property c.args.number) told.body) (FindsProperty basis (c.args.number, property) told)
    (property_found basis c.args.number property told (c.is_same_name.ensures.0 c.if-not-is_same_name.false ∙ c.name.ensures.value)) c.check_body.ensures.found
