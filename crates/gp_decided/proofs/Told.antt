-- What a judge tells is what the tests say.
use Rattle.std.proofs.Common.{◌≡◌, refl, sym, ap, ◌∙◌, subst, ℕ, zero, suc, ◌+◌, ◌-◌, ◌<◌, ◌↔◌, Bool, true, false, IsTrue, List, [], ◌∷◌, ◌++◌, None, Some, length, take, arith}
use Rattle.std.specs.List.{slice_get}
use Rattle.std.proofs.lemmas.Bool.{false≢true}
use Rattle.std.proofs.lemmas.List.{length_push, take_all, take_more}
use Rattle.std.proofs.lemmas.Option.{get_or_from_slice_get, none-some, same_Some, slice_get_within}
use Rattle.gp_base.specs.ListLaws.{slice_get_back}
use Rattle.gp_clause.specs.declared.edge.Edge.{Edge}
use Rattle.gp_clause.specs.declared.kind.Kind.{Kind}
use Rattle.gp_clause.specs.declared.lit.Lit.{Lit}
use Rattle.gp_clause.specs.declared.problem.Problem.{Problem}
use Rattle.gp_clause.specs.declared.problem.Query.{Query}
use Rattle.gp_certificate.specs.declared.step.Step.{Step}
use Rattle.gp_certificate.specs.declared.certificate.Certificate.{Certificate}
use Rattle.gp_certificate.specs.Certificate.{IsLast, StepsPass, clauses_of}
use Rattle.gp_certificate.specs.Shared.{FirstFails, FirstOwnFails, PassesOver, SharedPasses}
use Rattle.gp_decided.specs.Refuting.{AreNegations, Ends, refutations_decided, refutes_over, shared_passes}

-- a test that holds is true, and one that does not is false
same_test : (one other : Bool) → (one ≡ true → other ≡ true) → (other ≡ true → one ≡ true) → one ≡ other
same_test true other to from = sym (to refl)
same_test false true to from = absurd (false≢true (from refl))
same_test false false to from = refl

-- the first of steps that pass do
first_pass : (edges : List Edge) (kinds : List Kind) (numbered unnamed : List (List Lit) → List (List Lit)) (earlier : List (List Lit)) (n : ℕ) (steps : List Step)
    → StepsPass edges kinds numbered unnamed earlier steps → StepsPass edges kinds numbered unnamed earlier (take n steps)
first_pass edges kinds numbered unnamed earlier zero steps passes = tt
first_pass edges kinds numbered unnamed earlier (suc n) [] passes = tt
first_pass edges kinds numbered unnamed earlier (suc n) (step ∷ steps) passes = (passes.0, first_pass edges kinds numbered unnamed (earlier ++ step.clause ∷ []) n steps passes.1)

pub told_pass : (problem : Problem) (shared : List Step) → SharedPasses problem shared → true ≡ shared_passes problem shared
told_pass problem shared passes = sym ((refutations_decided.shared problem shared).1 passes)

pub told_fail : (problem : Problem) (shared : List Step) (place : ℕ) → FirstFails problem shared place → false ≡ shared_passes problem shared
told_fail problem shared place fails =
    same_test false (shared_passes problem shared) (λ e. absurd (false≢true e))
    (λ is. absurd (fails.fails (first_pass problem.edges problem.kinds (λ clauses. clauses) (λ clauses. clauses) problem.clauses (place + 1) shared ((refutations_decided.shared problem shared).0 is))))

pub told_refutes : (problem : Problem) (shared : List Step) (query : Query) (certificate : Certificate) (told : Bool) → SharedPasses problem shared → PassesOver problem shared query certificate
    → IsTrue told ↔ Ends (AreNegations query) certificate.steps → told ≡ refutes_over problem shared query certificate
told_refutes problem shared query certificate told shares own ends =
    let test = refutations_decided.refutes problem shared query certificate in
    same_test told (refutes_over problem shared query certificate) (λ is. test.1 (record { checks = record { shares = shares; own = own }; ends = ends.0 is })) (λ is. ends.1 (test.0 is).ends)

pub told_own_fails : (problem : Problem) (shared : List Step) (query : Query) (certificate : Certificate) (place : ℕ)
    → FirstOwnFails problem.edges (problem.kinds ++ query.locals) problem.clauses (clauses_of shared) certificate.steps place → false ≡ refutes_over problem shared query certificate
told_own_fails problem shared query certificate place fails =
    same_test false (refutes_over problem shared query certificate) (λ e. absurd (false≢true e))
    (λ is.
    absurd (fails.fails (first_pass problem.edges (problem.kinds ++ query.locals) (λ clauses. problem.clauses ++ clauses_of shared ++ clauses) (λ clauses. problem.clauses ++ clauses) [] (place + 1) certificate.steps
    ((refutations_decided.refutes problem shared query certificate).0 is).checks.own)))

last_is : (steps : List Step) (step : Step) → slice_get steps (length steps - 1) ≡ Some step → IsLast steps step
last_is steps step got =
    let within : length steps - 1 < length steps = slice_get_within steps (length steps - 1) step got in
    let whole : length steps ≡ length steps - 1 + 1 = omega (arith, within) in (
      take (length steps - 1) steps,
      sym (take_all (length steps - 1 + 1) steps (omega (arith, whole))) ∙ take_more steps (length steps - 1) step within
          ∙ ap (λ s. take (length steps - 1) steps ++ s ∷ []) (get_or_from_slice_get steps (length steps - 1) step step got),
    )

got_last : (steps front : List Step) (step : Step) → steps ≡ front ++ step ∷ [] → slice_get steps (length steps - 1) ≡ Some step
got_last steps front step is =
    let size : length steps ≡ length front + 1 = ap (λ (ss : List Step). length ss) is ∙ length_push front step in
    let place : length steps - 1 ≡ length front + 0 = omega (arith, size) in
    ap (λ (n : ℕ). slice_get steps n) place ∙ ap (λ (ss : List Step). slice_get ss (length front + 0)) is ∙ slice_get_back front (step ∷ []) 0

-- what is told of the last step is told of the end
pub end_told : (P : List Lit → Type 0) (steps : List Step) (step : Step) (told : Bool) → slice_get steps (length steps - 1) ≡ Some step → IsTrue told ↔ P step.clause → IsTrue told ↔ Ends P steps
end_told P steps step told got tells = (
  λ is. (step, last_is steps step got, tells.0 is),
  λ ends.
      let same : ends.0 ≡ step = same_Some ends.0 step (sym (got_last steps ends.1.0 ends.0 ends.1.1) ∙ got) in
      tells.1 (subst (λ (s : Step). P s.clause) same ends.2),
)

pub no_end : (P : List Lit → Type 0) (steps : List Step) → slice_get steps (length steps - 1) ≡ None → Ends P steps → ⊥
no_end P steps none ends = none-some ends.0 (sym none ∙ got_last steps ends.1.0 ends.0 ends.1.1)
