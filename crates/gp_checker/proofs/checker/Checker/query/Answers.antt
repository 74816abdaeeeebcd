use Rattle.std.proofs.Common.{◌≡◌, sym, subst, true, ◌≤◌, length}
use Rattle.std.proofs.lemmas.Result.{IfOk-weaker}
use Rattle.gp_clause.specs.declared.problem.Query.{Query}
use Rattle.gp_clause.specs.Problem.{IsValidQuery}
use Rattle.gp_constraint.specs.Base.{base_of}
use Rattle.gp_constraint.specs.Points.{points_of}
use Rattle.gp_constraint.specs.Query.{query_of}
use Rattle.gp_instance.specs.Instance.{is_instance}
use Rattle.gp_instance.specs.ListedLaws.{is_listed}
use Rattle.gp_checker.specs.Basis.{Basis}
use Rattle.gp_checker.proofs.checker.Checker.query.Goals as goal

pub returns-clause-asked : goal.returns-clause-asked
returns-clause-asked c =
    let asked : Basis → Query = λ basis. query_of basis.window c.args.property.now c.args.instance.now.events in
    IfOk-weaker c.query.result (λ (query : Query). query ≡ query_of c.self.inside.encoded.now c.args.property.now c.args.instance.now.events) (λ (query : Query). query ≡ asked c.args.self.now)
    (λ query is. subst (λ (basis : Basis). query ≡ asked basis) c.self.view_is is) c.query.ensures

pub returns-clause-valid : goal.returns-clause-valid
returns-clause-valid c =
    let window = c.self.inside.encoded.now in
    let property = c.args.property.now in
    let ids = c.args.instance.now.events in
    let is : is_instance c.self.inside.encoded.now c.args.property.now c.args.instance.now.events ≡ true =
    subst (λ (basis : Basis). is_instance basis.window c.args.property.now c.args.instance.now.events ≡ true) (sym c.self.view_is) c.requires in
    let listed = is_listed c.laws.ensures.atoms window property c.keeps_rules.ensures ids is in
    let few : length (points_of window) ≤ 2048 = c.self.invariant.encodable.points in
    let valid = c.laws.ensures.valid.query window property ids few listed.few is in
    IfOk-weaker c.query.result (λ (query : Query). query ≡ query_of c.self.inside.encoded.now c.args.property.now c.args.instance.now.events) (IsValidQuery (base_of c.args.self.now.window))
    (λ query same. subst (λ (basis : Basis). IsValidQuery (base_of basis.window) query) c.self.view_is (subst (IsValidQuery (base_of c.self.inside.encoded.now)) (sym same) valid)) c.query.ensures
