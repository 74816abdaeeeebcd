-- Steps that pass alone pass, raised, over a shared list.
use Rattle.std.proofs.Common.{◌≡◌, refl, ap, sym, subst, ◌∙◌, ℕ, ◌+◌, ◌-◌, ◌<◌, ◌≤◌, Bool, true, false, nat_lt, List, [], ◌∷◌, ◌++◌, length, map, get_or, All, arith}
use Rattle.std.specs.List.{slice_get}
use Rattle.std.proofs.lemmas.Bool.Decides.{nat_tests}
use Rattle.std.proofs.lemmas.List.{append-nil, length-append, length-map, map-append}
use Rattle.std.proofs.lemmas.List.Elements.{All-map, All-weaker}
use Rattle.std.proofs.lemmas.Option.{slice_get-get_or, slice_get_within}
use Rattle.gp_base.specs.ListLaws.{slice_get_back, slice_get_front}
use Rattle.gp_clause.specs.declared.edge.Edge.{Edge}
use Rattle.gp_clause.specs.declared.kind.Kind.{Kind}
use Rattle.gp_clause.specs.declared.lit.Lit.{Lit}
use Rattle.gp_certificate.specs.declared.step.Step.{Step}
use Rattle.gp_certificate.specs.Certificate.{clauses_of, usable, StepPasses, IsLast}
use Rattle.gp_certificate.specs.Shared.{OwnStepsPass}
use Rattle.gp_certificate.specs.Step.{Passes, named}
use Rattle.gp_derivation.specs.Numbering.{moved, with_hints}
use Rattle.gp_raise.specs.Raised.{RaisedRefutes}

module _ (base shared own : List (List Lit)) where
  abbrev past : ℕ → ℕ
  past = moved (length base) (length shared)

  -- a hint names the same once it is moved past the shared clauses
  same_clause : (hint : ℕ) → slice_get (base ++ shared ++ own) (past hint) ≡ slice_get (base ++ own) hint
  same_clause hint = at (nat_lt hint (length base)) refl
    where
      at : (b : Bool) → nat_lt hint (length base) ≡ b → slice_get (base ++ shared ++ own) (past hint) ≡ slice_get (base ++ own) hint
      at true e =
          let less : hint < length base = grind (arith, nat_tests) in
          rw e (slice_get_front (base ++ shared) own hint (omega (arith, less, length-append base shared)) ∙ slice_get_front base shared hint less ∙ sym (slice_get_front base own hint less))
      at false e =
          let least : length base ≤ hint = grind (arith, nat_tests) in
          let k : ℕ = hint - length base in
          let place : hint ≡ length base + k = omega (arith, least) in
          let later : hint + length shared ≡ length (base ++ shared) + k = omega (arith, least, length-append base shared) in
          rw e (ap (λ (n : ℕ). slice_get (base ++ shared ++ own) n) later ∙ slice_get_back (base ++ shared) own k
          ∙ sym (ap (λ (n : ℕ). slice_get (base ++ own) n) place ∙ slice_get_back base own k))

  still_within : (hint : ℕ) → hint < length (base ++ own) → past hint < length (base ++ shared ++ own)
  still_within hint within =
      slice_get_within (base ++ shared ++ own) (past hint) (get_or (base ++ own) hint []) (same_clause hint ∙ slice_get-get_or (base ++ own) hint [] within)

  all_within : (hints : List ℕ) → All (λ hint. hint < length (base ++ own)) hints → All (λ hint. hint < length (base ++ shared ++ own)) (map past hints)
  all_within hints within =
      All-map (λ hint. hint < length (base ++ shared ++ own)) past hints
      (All-weaker (λ hint. hint < length (base ++ own)) (λ hint. past hint < length (base ++ shared ++ own)) still_within hints within)

  same_named : (hints : List ℕ) → named (base ++ shared ++ own) (map past hints) ≡ named (base ++ own) hints
  same_named [] = refl
  same_named (hint ∷ hints) = rw (same_clause hint, same_named hints) refl

  -- so a step may use the same clauses
  same_usable : (hints : List ℕ) → usable (base ++ shared ++ own) (base ++ own) (map past hints) ≡ usable (base ++ own) (base ++ own) hints
  same_usable [] = refl
  same_usable (hint ∷ hints) = same_named (hint ∷ hints)

  step_raised : (edges : List Edge) (kinds : List Kind) (step : Step) → StepPasses edges kinds (base ++ own) (base ++ own) step
      → StepPasses edges kinds (base ++ shared ++ own) (base ++ own) (with_hints past step)
  step_raised edges kinds step passes = record {
    hints = all_within step.hints passes.hints;
    passes = subst (λ (clauses : List (List Lit)). Passes edges kinds clauses step.clause) (sym (same_usable step.hints)) passes.passes;
  }

-- without shared clauses a step is numbered behind the base alone
step_alone : (edges : List Edge) (kinds : List Kind) (base own : List (List Lit)) (step : Step) → StepPasses edges kinds (base ++ [] ++ own) (base ++ own) step
    → StepPasses edges kinds (base ++ own) (base ++ own) step
step_alone edges kinds base own step passes = subst (λ (numbered : List (List Lit)). StepPasses edges kinds (numbered ++ own) (base ++ own) step) (append-nil base) passes

steps_raised : (edges : List Edge) (kinds : List Kind) (base shared own : List (List Lit)) (steps : List Step) → OwnStepsPass edges kinds base [] own steps
    → OwnStepsPass edges kinds base shared own (map (with_hints (moved (length base) (length shared))) steps)
steps_raised edges kinds base shared own [] passes = tt
steps_raised edges kinds base shared own (step ∷ steps) passes = (
  step_raised base shared own edges kinds step (step_alone edges kinds base own step passes.0),
  steps_raised edges kinds base shared (own ++ step.clause ∷ []) steps passes.1,
)

-- the last step stays the last, with its clause
last_raised : (f : ℕ → ℕ) (steps : List Step) (step : Step) → IsLast steps step → IsLast (map (with_hints f) steps) (with_hints f step)
last_raised f steps step (front, is) = (map (with_hints f) front, ap (map (with_hints f)) is ∙ map-append (with_hints f) front (step ∷ []))

pub raising_refutes : RaisedRefutes
raising_refutes problem shared query certificate shares refutes =
    let count : length (clauses_of shared) ≡ length shared = length-map shared (λ (step : Step). step.clause) in
    let kinds : List Kind = problem.kinds ++ query.locals in
    record {
      checks = record {
        shares = shares;
        own = subst (λ (gained : ℕ). OwnStepsPass problem.edges kinds problem.clauses (clauses_of shared) [] (map (with_hints (moved (length problem.clauses) gained)) certificate.steps)) count
            (steps_raised problem.edges kinds problem.clauses (clauses_of shared) [] certificate.steps refutes.checks.own);
      };
      ends = (
        with_hints (moved (length problem.clauses) (length shared)) refutes.ends.0,
        last_raised (moved (length problem.clauses) (length shared)) certificate.steps refutes.ends.0 refutes.ends.1,
        refutes.ends.2,
      );
    }
