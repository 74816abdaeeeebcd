-- One property more is accepted, until all are.
use Rattle.std.proofs.Common.{◌≡◌, refl, ◌∙◌, subst, length, None, Some, arith}
use Rattle.std.proofs.lemmas.Option.{slice_get_read}
use Rattle.gp_checker.specs.Basis.{Basis}
use Rattle.gp_checker.specs.Finds.{FindsProperty}
use Rattle.gp_checker.proofs.Passing.{AreAccepted, all_properties, properties_surplus, property_accepted, property_fails, property_missing}
use Rattle.gp_checker.specs.PlaceLaws.{lent_at}
use Rattle.gp_checker.proofs.checker.Checker.check_properties.Goals as goal

pub returns-in_default-clause-found : goal.returns-in_default-clause-found
returns-in_default-clause-found c =
    let basis = c.args.self.now in
    let property = c.index-properties-number.result in
    property_missing basis.window basis.budget basis.shared c.args.properties.now c.args.records.now c.loop-number.number property c.wrong_property.result c.wrong_property.ensures
    (slice_get_read c.args.properties.now (length c.args.properties.now) c.loop-number.number property refl c.loop-number-test.true c.index-properties-number.is)
    (lent_at c.args.records.now c.loop-number.number None c.in_default.ensures.lookup) c.loop-number.invariant.1

pub returns-in-Some-2-clause-found : goal.returns-in-Some-2-clause-found
returns-in-Some-2-clause-found c =
    let basis = c.args.self.now in
    let property = c.index-properties-number.result in
    let told = c.in-Some.told.now in
    let found = subst (λ (b : Basis). FindsProperty b (c.loop-number.number, property) told c.in_ok-failure.field-0) c.loop-number.invariant.0 c.in_ok-failure.ensures.found in
    property_fails basis.window basis.budget basis.shared c.args.properties.now c.args.records.now c.loop-number.number property told c.in-Some-2.failure
    (slice_get_read c.args.properties.now (length c.args.properties.now) c.loop-number.number property refl c.loop-number-test.true c.index-properties-number.is)
    (lent_at c.args.records.now c.loop-number.number (Some c.in-Some.told) c.in-Some.ensures.lookup)
    (subst (FindsProperty basis (c.loop-number.number, property) told) c.in-Some-2.is found) c.loop-number.invariant.1

pub loop-number-preserved : goal.loop-number-preserved
loop-number-preserved c =
    let basis = c.args.self.now in
    let property = c.index-properties-number.result in
    let told = c.in-Some.told.now in
    let found = subst (λ (b : Basis). FindsProperty b (c.loop-number.number, property) told c.in_ok-failure.field-0) c.loop-number.invariant.0 c.in_ok-failure.ensures.found in (
      c.in_ok-failure.ensures.same ∙ c.loop-number.invariant.0,
      property_accepted basis.window basis.budget basis.shared c.args.properties.now c.args.records.now c.loop-number.number property told
          (slice_get_read c.args.properties.now (length c.args.properties.now) c.loop-number.number property refl c.loop-number-test.true c.index-properties-number.is)
          (lent_at c.args.records.now c.loop-number.number (Some c.in-Some.told) c.in-Some.ensures.lookup)
          (subst (FindsProperty basis (c.loop-number.number, property) told) c.in_default-2.is found) c.loop-number.invariant.1,
    )

pub returns-then-properties-records-clause-found : goal.returns-then-properties-records-clause-found
returns-then-properties-records-clause-found c =
    let basis = c.args.self.now in
    let last : c.loop-number.number ≡ length c.args.properties.now = omega arith in
    properties_surplus basis.window basis.budget basis.shared c.args.properties.now c.args.records.now (length c.args.properties.now) c.wrong_property-then-properties-records.result
    c.wrong_property-then-properties-records.ensures (omega arith) c.if-properties-records.true
    (subst (λ n. AreAccepted basis.window basis.budget basis.shared c.args.properties.now c.args.records.now n) last c.loop-number.invariant.1)

pub returns-clause-found : goal.returns-clause-found
returns-clause-found c =
    let basis = c.args.self.now in
    all_properties basis.window basis.budget basis.shared c.args.properties.now c.args.records.now c.loop-number.number c.loop-number-test.false (omega arith) c.loop-number.invariant.1
