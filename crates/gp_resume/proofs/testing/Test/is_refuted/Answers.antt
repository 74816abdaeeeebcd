use Rattle.std.proofs.Common.{◌≡◌, sym, ap, ◌∙◌, subst, Bool, true, false}
use Rattle.std.proofs.lemmas.Result.{IfOk-weaker}
use Rattle.gp_certificate.specs.Shared.{SharedPasses}
use Rattle.gp_clause.specs.declared.problem.Problem.{Problem}
use Rattle.gp_clause.specs.declared.problem.Query.{Query}
use Rattle.gp_clause.specs.Problem.{IsValidQuery}
use Rattle.gp_constraint.specs.Base.{base_of}
use Rattle.gp_constraint.specs.Query.{query_of}
use Rattle.gp_decided.specs.Refuting.{refutations_decided, refutes_over, shared_passes}
use Rattle.gp_instance.specs.Instance.{is_instance}
use Rattle.gp_instance.specs.ListedLaws.{is_listed}
use Rattle.gp_resume.specs.TestForm.{TestForm}
use Rattle.gp_resume.proofs.Holding.{not_refuted}
use Rattle.gp_resume.proofs.testing.Test.is_refuted.Goals as goal

-- src/testing.rt:109:13
pub returns-then-not-self-clause-refuted : goal.returns-then-not-self-clause-refuted
returns-then-not-self-clause-refuted c =
    let window = c.self.inside.encoded.now in
    let shared = c.self.inside.shared.now in
    let property = c.args.property.now in
    let ids = c.args.instance.now.events in
    let certificate = c.args.certificate.now in
    let fails : shared_passes (base_of window) shared ≡ false = sym c.self.invariant.told ∙ c.if-not-self.true in
    subst (λ (test : TestForm). false ≡ refutes_over (base_of test.window) test.shared (query_of test.window property ids) certificate) c.self.view_is
    (not_refuted refutations_decided (base_of window) shared (query_of window property ids) certificate fails)

-- src/testing.rt:116:9
pub refutes_over-told-requires-clause-asked : goal.refutes_over-told-requires-clause-asked
refutes_over-told-requires-clause-asked c =
    let window = c.self.inside.encoded.now in
    let property = c.args.property.now in
    let ids = c.args.instance.now.events in
    let is : is_instance window property ids ≡ true = subst (λ (test : TestForm). is_instance test.window property ids ≡ true) (sym c.self.view_is) c.requires in
    let listed = is_listed c.atoms_kept.ensures window property c.keeps_rules.ensures ids is in
    let valid = c.problems_are_valid.ensures.query window property ids c.self.invariant.encodable.points listed.few is in
    subst (λ (problem : Problem). IsValidQuery problem c.in_ok-query.query) (sym c.problem-problem.ensures.problem)
    (subst (λ (query : Query). IsValidQuery (base_of window) query) (sym c.in_ok-query.ensures) valid)

-- src/testing.rt:116:9
pub refutes_over-told-requires-clause-shared : goal.refutes_over-told-requires-clause-shared
refutes_over-told-requires-clause-shared c =
    let window = c.self.inside.encoded.now in
    let shared = c.self.inside.shared.now in
    subst (λ (problem : Problem). SharedPasses problem shared) (sym c.problem-problem.ensures.problem)
    ((refutations_decided.shared (base_of window) shared).0 (sym c.self.invariant.told ∙ c.if-not-self.false))

-- src/testing.rt:97:5
pub returns-clause-refuted : goal.returns-clause-refuted
returns-clause-refuted c =
    let window = c.self.inside.encoded.now in
    let shared = c.self.inside.shared.now in
    let property = c.args.property.now in
    let ids = c.args.instance.now.events in
    let certificate = c.args.certificate.now in
    IfOk-weaker c.refutes_over-told.result (λ (told : Bool). told ≡ refutes_over c.problem-problem.result.now shared c.in_ok-query.query certificate)
    (λ (told : Bool). told ≡ refutes_over (base_of c.args.self.now.window) c.args.self.now.shared (query_of c.args.self.now.window property ids) certificate)
    (λ told is.
    subst (λ (test : TestForm). told ≡ refutes_over (base_of test.window) test.shared (query_of test.window property ids) certificate) c.self.view_is
    (is ∙ ap (λ (problem : Problem). refutes_over problem shared c.in_ok-query.query certificate) c.problem-problem.ensures.problem
    ∙ ap (λ (query : Query). refutes_over (base_of window) shared query certificate) c.in_ok-query.ensures))
    c.refutes_over-told.ensures.refutes
