-- Steps whose hints are replaced check where the hints still name the same clauses.
use Rattle.std.proofs.Common.{◌≡◌, ℕ, ◌+◌, ◌-◌, ◌<◌, ◌≤◌, ◌⊎◌, inl, inr, Bool, true, false, nat_lt, Some, List, [], ◌∷◌, ◌++◌, length, map, get_or, All, Contains, refl, sym, ◌∙◌, subst, ap, append_assoc, arith}
use Rattle.std.specs.List.{slice_get}
use Rattle.std.proofs.lemmas.Bool.Decides.{nat_tests}
use Rattle.std.proofs.lemmas.List.{length-append}
use Rattle.std.proofs.lemmas.List.Elements.{All-nil, All-map, All-weaker, All-contains, All-contains_itself, Contains-append_left, Contains-append_right, Contains-append_cases}
use Rattle.std.proofs.lemmas.Option.{slice_get-get_or, slice_get_within}
use Rattle.gp_clause.specs.declared.edge.Edge.{Edge}
use Rattle.gp_clause.specs.declared.kind.Kind.{Kind}
use Rattle.gp_clause.specs.declared.lit.Lit.{Lit}
use Rattle.gp_certificate.specs.declared.step.Step.{Step}
use Rattle.gp_certificate.specs.Certificate.{usable, StepChecks, StepsCheck}
use Rattle.gp_derivation.specs.Numbering.{moved, with_hints}
use Rattle.gp_certificate.specs.Step.{Passes, named}
use Rattle.gp_base.specs.ListLaws.{contains_map, got_front, slice_get_front, slice_get_back}
use Rattle.gp_certificate.specs.NamedLaws.{named_all, named_contains}
use Rattle.gp_certificate.specs.PassingLaws.{more_pass}

-- hints replaced by others name in a second list what they named in a first
abbrev pub NamesAlike : List (List Lit) → List (List Lit) → (ℕ → ℕ) → List ℕ → Type 0
NamesAlike all more f hints = (hint : ℕ) (clause : List Lit) → Contains hints hint → slice_get all hint ≡ Some clause → slice_get more (f hint) ≡ Some clause

-- what hints named is among what a step may use by the hints in their place
used_alike : (all more : List (List Lit)) (f : ℕ → ℕ) (hints : List ℕ) → NamesAlike all more f hints → All (Contains (usable more more (map f hints))) (named all hints)
used_alike all more f [] alike = All-nil (Contains more)
used_alike all more f (first ∷ hints) alike =
    named_all (Contains (named more (map f (first ∷ hints)))) all (first ∷ hints)
    (λ hint clause is got. named_contains more (map f (first ∷ hints)) (f hint) clause (contains_map f (first ∷ hints) hint is) (alike hint clause is got))

hints_alike : (all more : List (List Lit)) (f : ℕ → ℕ) (hints : List ℕ) → NamesAlike all more f hints → All (λ hint. hint < length all) hints → All (λ hint. hint < length more) (map f hints)
hints_alike all more f hints alike within =
    All-map (λ hint. hint < length more) f hints
    (All-weaker (Contains hints) (λ hint. f hint < length more)
    (λ hint is. slice_get_within more (f hint) (get_or all hint []) (alike hint (get_or all hint []) is (slice_get-get_or all hint [] (All-contains (λ h. h < length all) hints hint within is)))) hints (All-contains_itself hints))

-- a step that passes with what its hints name checks after a list where other hints name the same
pub named_checks : (edges : List Edge) (kinds : List Kind) (all more : List (List Lit)) (f : ℕ → ℕ) (step : Step) → NamesAlike all more f step.hints
    → All (λ hint. hint < length all) step.hints → Passes edges kinds (named all step.hints) step.clause → StepChecks edges kinds more (with_hints f step)
named_checks edges kinds all more f step alike within passes = record {
  hints = hints_alike all more f step.hints alike within;
  passes = more_pass edges kinds (named all step.hints) (usable more more (map f step.hints)) step.clause step.clause (used_alike all more f step.hints alike) (All-contains_itself step.clause) passes.in_range passes;
}

hinted_alike : (all more : List (List Lit)) (f : ℕ → ℕ) (hints : List ℕ) → NamesAlike all more f hints → All (Contains more) all → All (Contains (usable more more (map f hints))) (usable all all hints)
hinted_alike all more f [] alike among = among
hinted_alike all more f (first ∷ hints) alike among = used_alike all more f (first ∷ hints) alike

-- and so does a step of a certificate
pub hinted_checks : (edges : List Edge) (kinds : List Kind) (all more : List (List Lit)) (f : ℕ → ℕ) (step : Step) → NamesAlike all more f step.hints → All (Contains more) all
    → StepChecks edges kinds all step → StepChecks edges kinds more (with_hints f step)
hinted_checks edges kinds all more f step alike among checks = record {
  hints = hints_alike all more f step.hints alike checks.hints;
  passes = more_pass edges kinds (usable all all step.hints) (usable more more (map f step.hints)) step.clause step.clause (hinted_alike all more f step.hints alike among) (All-contains_itself step.clause) checks.passes.in_range checks.passes;
}

-- a hint to a base clause names it still, and one to a step names the step that comes so many later
moved_alike : (base added done : List (List Lit)) (hints : List ℕ) → NamesAlike (base ++ done) (base ++ added ++ done) (moved (length base) (length added)) hints
moved_alike base added done hints hint clause is got = at (nat_lt hint (length base)) refl
  where
    at : (b : Bool) → nat_lt hint (length base) ≡ b → slice_get (base ++ added ++ done) (moved (length base) (length added) hint) ≡ Some clause
    at true e =
        let less : hint < length base = grind (arith, nat_tests) in
        let first : slice_get base hint ≡ Some clause = sym (slice_get_front base done hint less) ∙ got in
        rw e (got_front (base ++ added) done hint clause (got_front base added hint clause first))
    at false e =
        let least : length base ≤ hint = grind (arith, nat_tests) in
        let place : hint ≡ length base + (hint - length base) = omega arith in
        let second : slice_get done (hint - length base) ≡ Some clause = sym (slice_get_back base done (hint - length base)) ∙ ap (λ k. slice_get (base ++ done) k) (sym place) ∙ got in
        let later : hint + length added ≡ length (base ++ added) + (hint - length base) = omega (arith, length-append base added) in
        rw e (ap (λ k. slice_get (base ++ added ++ done) k) later ∙ slice_get_back (base ++ added) done (hint - length base) ∙ second)

moved_among : (base added done : List (List Lit)) → All (Contains (base ++ added ++ done)) (base ++ done)
moved_among base added done = All-weaker (Contains (base ++ done)) (Contains (base ++ added ++ done)) (λ clause is. at clause (Contains-append_cases base done clause is)) (base ++ done) (All-contains_itself (base ++ done))
  where
    at : (clause : List Lit) → Contains base clause ⊎ Contains done clause → Contains (base ++ added ++ done) clause
    at clause (inl is) = Contains-append_left (base ++ added) done clause (Contains-append_left base added clause is)
    at clause (inr is) = Contains-append_right (base ++ added) done clause is

-- the steps of a certificate check after others too
pub check_moved : (edges : List Edge) (kinds : List Kind) (base added done : List (List Lit)) (steps : List Step) → StepsCheck edges kinds (base ++ done) steps
    → StepsCheck edges kinds (base ++ added ++ done) (map (with_hints (moved (length base) (length added))) steps)
check_moved edges kinds base added done [] checks = tt
check_moved edges kinds base added done (step ∷ steps) checks =
    let P : List (List Lit) → Type 0 = λ xs. StepsCheck edges kinds xs steps in
    let Q : List (List Lit) → Type 0 = λ xs. StepsCheck edges kinds xs (map (with_hints (moved (length base) (length added))) steps) in (
      hinted_checks edges kinds (base ++ done) (base ++ added ++ done) (moved (length base) (length added)) step (moved_alike base added done step.hints) (moved_among base added done) checks.0,
      subst Q (sym (append_assoc (base ++ added) done (step.clause ∷ [])))
          (check_moved edges kinds base added (done ++ step.clause ∷ []) steps (subst P (append_assoc base done (step.clause ∷ [])) checks.1)),
    )
