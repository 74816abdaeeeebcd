-- A clause is good that a step of its own proves.
use Rattle.std.proofs.Common.{◌≡◌, refl, sym, ap, subst, ℕ, ◌≤◌, ◌↔◌, List, [], ◌∷◌, ◌++◌, length, All, arith}
use Rattle.std.proofs.lemmas.List.Elements.{All-cons, All-nil}
use Rattle.gp_clause.specs.declared.kind.Kind.{Kind}
use Rattle.gp_clause.specs.declared.lit.Lit.{Lit}
use Rattle.gp_clause.specs.declared.problem.Problem.{Problem}
use Rattle.gp_clause.specs.declared.problem.Query.{Query}
use Rattle.gp_clause.specs.Clause.{NamesBelow}
use Rattle.gp_certificate.specs.declared.step.Step.{Step}
use Rattle.gp_certificate.specs.declared.certificate.Certificate.{Certificate}
use Rattle.gp_certificate.specs.Certificate.{Checks, clauses_of, empty_query, StepsCheck}
use Rattle.gp_derivation.specs.Exchange.{IsGoodBy}
use Rattle.gp_derivation.specs.Fit.{literals_in}
use Rattle.gp_certificate.specs.Shared.{ChecksOver, PassesOver, SharesNothing}

-- the step of a clause that may use all base clauses
abbrev pub plain : List Lit → Step
plain clause = record { clause = clause; hints = [] }

checks : SharesNothing → (problem : Problem) (query : Query) (certificate : Certificate) → query.locals ≡ [] → PassesOver problem [] query certificate → Checks problem empty_query certificate
checks laws problem query certificate none passes =
    subst (λ (locals : List Kind). StepsCheck problem.edges (problem.kinds ++ locals) problem.clauses certificate.steps) none
    ((laws.checks problem query certificate).0 (record { shares = tt; own = passes }))

pub good_by_plain : SharesNothing → (problem : Problem) (query : Query) (clause : List Lit) (certificate : Certificate) → certificate.steps ≡ plain clause ∷ [] → query.locals ≡ []
    → length clause ≤ 8 → NamesBelow (length problem.kinds) clause → PassesOver problem [] query certificate → IsGoodBy problem clause certificate
good_by_plain laws problem query clause certificate is none few below passes = record {
  few = few;
  small = record {
    steps = let counted : length certificate.steps ≡ 1 = ap length is in omega (arith, counted);
    literals = let counted : literals_in certificate.steps ≡ literals_in (plain clause ∷ []) = ap literals_in is in omega (arith, counted, few);
    below = subst (λ (steps : List Step). All (NamesBelow (length problem.kinds)) (clauses_of steps)) (sym is)
        (All-cons (NamesBelow (length problem.kinds)) clause [] below (All-nil (NamesBelow (length problem.kinds))));
  };
  proves = record {
    checks = checks laws problem query certificate none passes;
    ends = (plain clause, ([], is), refl);
  };
}
