-- The last step of a certificate.
use Rattle.std.proofs.Common.{◌≡◌, sym, ap, ◌∙◌, subst, ℕ, ◌+◌, ◌-◌, ◌<◌, ◌≤◌, ◌↔◌, Bool, IsTrue, List, [], ◌∷◌, ◌++◌, None, Some, length, take, All, Contains, arith}
use Rattle.std.specs.List.{slice_get}
use Rattle.std.proofs.lemmas.List.{length_push, take_all, take_more}
use Rattle.std.proofs.lemmas.Option.{get_or_from_slice_get, none-some, same_Some, slice_get_within}
use Rattle.gp_clause.specs.declared.lit.Lit.{Lit}
use Rattle.gp_clause.specs.declared.problem.Query.{Query}
use Rattle.gp_clause.specs.Lit.{opposite}
use Rattle.gp_certificate.specs.declared.step.Step.{Step}
use Rattle.gp_certificate.specs.Certificate.{IsLast}
use Rattle.gp_base.specs.ListLaws.{slice_get_back}
use Rattle.gp_checker.specs.Accepted.{RefutesAtLast}

last_is : (steps : List Step) (step : Step) → slice_get steps (length steps - 1) ≡ Some step → IsLast steps step
last_is steps step got =
    let within : length steps - 1 < length steps = slice_get_within steps (length steps - 1) step got in
    let whole : length steps ≤ length steps - 1 + 1 = omega (arith, within) in (
      take (length steps - 1) steps,
      sym (take_all (length steps - 1 + 1) steps whole) ∙ take_more steps (length steps - 1) step within
          ∙ ap (λ s. take (length steps - 1) steps ++ s ∷ []) (get_or_from_slice_get steps (length steps - 1) step step got),
    )

-- what is got at the end of steps that end so
got_last : (steps front : List Step) (step : Step) → steps ≡ front ++ step ∷ [] → slice_get steps (length steps - 1) ≡ Some step
got_last steps front step is =
    let size : length steps ≡ length front + 1 = ap (λ (ss : List Step). length ss) is ∙ length_push front step in
    let place : length steps - 1 ≡ length front + 0 = omega (arith, size) in
    ap (λ (n : ℕ). slice_get steps n) place ∙ ap (λ (ss : List Step). slice_get ss (length front + 0)) is ∙ slice_get_back front (step ∷ []) 0

-- whether the last step refutes, by what is told of its literals
pub ends_told : (query : Query) (assumed lits : List Lit) (steps : List Step) (step : Step) (told : Bool) → assumed ≡ query.assumed → lits ≡ step.clause → slice_get steps (length steps - 1) ≡ Some step
    → IsTrue told ↔ All (λ lit. Contains assumed (opposite lit)) lits → IsTrue told ↔ RefutesAtLast query steps
ends_told query assumed lits steps step told assumed_is lits_is got tells =
    let A : List Lit → Type 0 = λ held. IsTrue told ↔ All (λ lit. Contains held (opposite lit)) lits in
    let L : List Lit → Type 0 = λ ls. IsTrue told ↔ All (λ lit. Contains query.assumed (opposite lit)) ls in
    let own : L step.clause = subst L lits_is (subst A assumed_is tells) in (
      λ is. (step, last_is steps step got, own.0 is),
      λ refutes.
          let same : refutes.0 ≡ step = same_Some refutes.0 step (sym (got_last steps refutes.1.0 refutes.0 refutes.1.1) ∙ got) in
          own.1 (subst (λ (s : Step). All (λ lit. Contains query.assumed (opposite lit)) s.clause) same refutes.2),
    )

-- no steps refute nothing
pub none_refutes : (query : Query) (steps : List Step) → slice_get steps (length steps - 1) ≡ None → RefutesAtLast query steps → ⊥
none_refutes query steps none refutes = none-some refutes.0 (sym none ∙ got_last steps refutes.1.0 refutes.0 refutes.1.1)
