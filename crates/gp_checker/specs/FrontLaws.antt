-- Laws: where some steps pass, those at their front do.
use Rattle.std.proofs.Common.{sym, subst, ℕ, ◌≤◌, List, [], ◌∷◌, ◌++◌, drop, take}
use Rattle.std.proofs.lemmas.List.{take-append-drop, take-take}
use Rattle.gp_clause.specs.declared.edge.Edge.{Edge}
use Rattle.gp_clause.specs.declared.kind.Kind.{Kind}
use Rattle.gp_clause.specs.declared.lit.Lit.{Lit}
use Rattle.gp_certificate.specs.declared.step.Step.{Step}
use Rattle.gp_certificate.specs.Certificate.{StepsPass}

module _ (edges : List Edge) (kinds : List Kind) (numbered unnamed : List (List Lit) → List (List Lit)) where
  -- steps pass without those after them
  pub front_passes : (earlier : List (List Lit)) (front rest : List Step) → StepsPass edges kinds numbered unnamed earlier (front ++ rest) → StepsPass edges kinds numbered unnamed earlier front
  front_passes earlier [] rest passes = tt
  front_passes earlier (step ∷ front) rest passes = (passes.0, front_passes (earlier ++ step.clause ∷ []) front rest passes.1)

  -- so do the first ones, however many
  pub first_pass : (earlier : List (List Lit)) (steps : List Step) (count : ℕ) → StepsPass edges kinds numbered unnamed earlier steps → StepsPass edges kinds numbered unnamed earlier (take count steps)
  first_pass earlier steps count passes = front_passes earlier (take count steps) (drop count steps) (subst (StepsPass edges kinds numbered unnamed earlier) (sym (take-append-drop count steps)) passes)

  -- and fewer where more do
  pub fewer_pass : (earlier : List (List Lit)) (steps : List Step) (few more : ℕ) → few ≤ more → StepsPass edges kinds numbered unnamed earlier (take more steps) → StepsPass edges kinds numbered unnamed earlier (take few steps)
  fewer_pass earlier steps few more least passes = subst (StepsPass edges kinds numbered unnamed earlier) (take-take few more steps least) (first_pass earlier (take more steps) few passes)
