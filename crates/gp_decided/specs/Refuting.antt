-- Whether a shared list passes, and whether a certificate refutes a query over it, as tests.
use Rattle.std.specs.Prelude.{ℕ, ◌<◌, ◌≡◌, ◌↔◌, ◌⊎◌, Bool, true, Option, None, Some, List, [], ◌∷◌, ◌++◌, drop, length, All, Contains, slice_get}
use Rattle.std.proofs.Common.{inl, inr, refl, sym, subst, ap, ◌∙◌, arith}
use Rattle.std.proofs.lemmas.Bool.{cases_lt}
use Rattle.std.proofs.lemmas.List.{length-append}
use Rattle.std.proofs.lemmas.List.Elements.{All-contains, Contains-append_cases, Contains-append_left, Contains-append_right}
use Rattle.gp_base.specs.ListLaws.{all_from_contains, first_or_rest, here, nothing_in, there}
use Rattle.gp_clause.specs.declared.edge.Edge.{Edge}
use Rattle.gp_clause.specs.declared.kind.Kind.{Kind}
use Rattle.gp_clause.specs.declared.lit.Lit.{Lit}
use Rattle.gp_clause.specs.declared.problem.Problem.{Problem}
use Rattle.gp_clause.specs.declared.problem.Query.{Query}
use Rattle.gp_clause.specs.Closure.{Derived}
use Rattle.gp_clause.specs.Kind.{bound_at, bound_in}
use Rattle.gp_clause.specs.Lit.{negations, opposite}
use Rattle.gp_clause.specs.LitLaws.{lits_cases}
use Rattle.gp_clause.specs.Walk.{HasNegativeCycle}
use Rattle.gp_certificate.specs.declared.step.Step.{Step}
use Rattle.gp_certificate.specs.declared.certificate.Certificate.{Certificate}
use Rattle.gp_certificate.specs.Certificate.{IsLast, StepPasses, StepsPass, clauses_of, usable}
use Rattle.gp_certificate.specs.Places.{bounds_at}
use Rattle.gp_certificate.specs.Shared.{PassesOver, RefutesOver, SharedPasses}
use Rattle.gp_certificate.specs.Step.{ClosesCycle, IsDerivedBound, LeadsToConflict, Passes}
use Rattle.gp_decided.specs.Closures.{closure, conflict_decided}
use Rattle.gp_decided.specs.Cycles.{cycle_decided, cycle_more}
use Rattle.gp_decided.specs.Decided.{Decided, all_decided, both_decided, contains_decided, decided_by, either_decided, holds, holds_exactly}

-- the bounds of some literals, one by one
bound_listed : (kinds : List Kind) (lits : List Lit) (lit : Lit) (edge : Edge) → Contains lits lit → bound_at kinds lit ≡ Some edge → Contains (bounds_at kinds lits) edge
bound_listed kinds [] lit edge within is = absurd (nothing_in lit within)
bound_listed kinds (first ∷ lits) lit edge within is = at (first_or_rest first lits lit within) (bound_at kinds first) refl (λ later. bound_listed kinds lits lit edge later is)
  where
    at : (first ≡ lit) ⊎ Contains lits lit → (bound : Option Edge) → bound_at kinds first ≡ bound → (Contains lits lit → Contains (bounds_at kinds lits) edge) → Contains (bounds_at kinds (first ∷ lits)) edge
    at (inl same) bound e rest = rw (ap (bound_at kinds) same ∙ is) (here edge (bounds_at kinds lits))
    at (inr later) None e rest = rw e (rest later)
    at (inr later) (Some other) e rest = rw e (there other (bounds_at kinds lits) edge (rest later))

listed_bound : (kinds : List Kind) (lits : List Lit) (edge : Edge) → Contains (bounds_at kinds lits) edge → (lit : Lit) × Contains lits lit × (bound_at kinds lit ≡ Some edge)
listed_bound kinds [] edge within = absurd (nothing_in edge within)
listed_bound kinds (first ∷ lits) edge within = at (bound_at kinds first) refl (listed_bound kinds lits edge)
  where
    at : (bound : Option Edge) → bound_at kinds first ≡ bound → (Contains (bounds_at kinds lits) edge → (lit : Lit) × Contains lits lit × (bound_at kinds lit ≡ Some edge))
        → (lit : Lit) × Contains (first ∷ lits) lit × (bound_at kinds lit ≡ Some edge)
    at None e rest = let (lit, is, bound) = rest (rw e at within) in (lit, there first lits lit is, bound)
    at (Some other) e rest = elim (first_or_rest other (bounds_at kinds lits) edge (rw e at within)) [
      | inl same ↦ (first, here first lits, e ∙ ap Some same)
      | inr later ↦ let (lit, is, bound) = rest later in (lit, there first lits lit is, bound)
    ]

module _ (edges : List Edge) (kinds : List Kind) (clauses : List (List Lit)) (start : List Lit) where
  -- all that is derived, and its bounds
  abbrev derived : List Lit
  derived = (closure start clauses).0

  bound_is : (edge : Edge) → Contains (bounds_at kinds derived) edge → IsDerivedBound kinds clauses start edge
  bound_is edge within =
      let (lit, is, bound) = listed_bound kinds derived edge within in
      at lit ((closure start clauses).1.sound lit is) (slice_get kinds lit.variable) refl bound
    where
      at : (lit : Lit) → Derived start clauses lit → (kind : Option Kind) → slice_get kinds lit.variable ≡ kind → bound_in kind lit.positive ≡ Some edge → IsDerivedBound kinds clauses start edge
      at lit from None e bound = absurd cc
      at lit from (Some kind) e bound = (lit, kind, from, e, bound)

  bound_among : (edge : Edge) → IsDerivedBound kinds clauses start edge → Contains (bounds_at kinds derived) edge
  bound_among edge (lit, kind, from, at, is) =
      bound_listed kinds derived lit edge ((closure start clauses).1.complete lit from) (ap (λ (o : Option Kind). bound_in o lit.positive) at ∙ is)

  closes_decided : Decided (ClosesCycle edges kinds clauses start)
  closes_decided = decided_by to from (cycle_decided (edges ++ bounds_at kinds derived))
    where
      to : HasNegativeCycle (edges ++ bounds_at kinds derived) → ClosesCycle edges kinds clauses start
      to cycle = (bounds_at kinds derived, all_from_contains (IsDerivedBound kinds clauses start) (bounds_at kinds derived) bound_is, cycle)

      from : ClosesCycle edges kinds clauses start → HasNegativeCycle (edges ++ bounds_at kinds derived)
      from (bounds, all, cycle) = cycle_more (edges ++ bounds) (edges ++ bounds_at kinds derived) (λ edge is. elim (Contains-append_cases edges bounds edge is) [
        | inl fixed ↦ Contains-append_left edges (bounds_at kinds derived) edge fixed
        | inr bound ↦ Contains-append_right edges (bounds_at kinds derived) edge (bound_among edge (All-contains (IsDerivedBound kinds clauses start) bounds edge all bound))
      ]) cycle

  conflict_led : Decided (LeadsToConflict edges kinds clauses start)
  conflict_led = either_decided (conflict_decided start clauses) closes_decided

less_decided : (a b : ℕ) → Decided (a < b)
less_decided a b = elim (cases_lt a b) [
  | inl less ↦ inl less
  | inr least ↦ inr (λ less. omega (arith, less, least))
]

passes_decided : (edges : List Edge) (kinds : List Kind) (clauses : List (List Lit)) (clause : List Lit) → Decided (Passes edges kinds clauses clause)
passes_decided edges kinds clauses clause =
    decided_by (λ both. record { in_range = both.0; refuted = both.1 }) (λ passes. (passes.in_range, passes.refuted))
    (both_decided (all_decided (λ (lit : Lit). lit.variable < length kinds) clause (λ lit _. less_decided lit.variable (length kinds))) (conflict_led edges kinds clauses (negations clause)))

step_decided : (edges : List Edge) (kinds : List Kind) (numbered unnamed : List (List Lit)) (step : Step) → Decided (StepPasses edges kinds numbered unnamed step)
step_decided edges kinds numbered unnamed step =
    decided_by (λ both. record { hints = both.0; passes = both.1 }) (λ passes. (passes.hints, passes.passes))
    (both_decided (all_decided (λ hint. hint < length numbered) step.hints (λ hint _. less_decided hint (length numbered))) (passes_decided edges kinds (usable numbered unnamed step.hints) step.clause))

steps_decided : (edges : List Edge) (kinds : List Kind) (numbered unnamed : List (List Lit) → List (List Lit)) (earlier : List (List Lit)) (steps : List Step)
    → Decided (StepsPass edges kinds numbered unnamed earlier steps)
steps_decided edges kinds numbered unnamed earlier [] = inl tt
steps_decided edges kinds numbered unnamed earlier (step ∷ steps) =
    both_decided (step_decided edges kinds (numbered earlier) (unnamed earlier) step) (steps_decided edges kinds numbered unnamed (earlier ++ step.clause ∷ []) steps)

-- there is a last step, of whose clause something holds
abbrev pub Ends : (List Lit → Type 0) → List Step → Type 0
Ends P steps = (step : Step) × IsLast steps step × P step.clause

no_end : (P : List Lit → Type 0) → Ends P [] → ⊥
no_end P (step, (front, is), holds) = omega (arith, ap (λ (ss : List Step). length ss) is, length-append front (step ∷ []))

one_end : (P : List Lit → Type 0) (step : Step) → Ends P (step ∷ []) → P step.clause
one_end P step (last, ([], is), holds) = let same : step ≡ last = cc in subst (λ (s : Step). P s.clause) (sym same) holds
one_end P step (last, (first ∷ front, is), holds) = absurd (omega (arith, ap (λ (ss : List Step). length ss) is, length-append front (last ∷ [])))

later_end : (P : List Lit → Type 0) (first second : Step) (steps : List Step) → Ends P (first ∷ second ∷ steps) → Ends P (second ∷ steps)
later_end P first second steps (last, ([], is), holds) = absurd (omega (arith, ap (λ (ss : List Step). length ss) is))
later_end P first second steps (last, (one ∷ front, is), holds) = let rest : second ∷ steps ≡ front ++ last ∷ [] = ap (drop 1) is in (last, (front, rest), holds)

ends_decided : (P : List Lit → Type 0) → ((clause : List Lit) → Decided (P clause)) → (steps : List Step) → Decided (Ends P steps)
ends_decided P decides [] = inr (no_end P)
ends_decided P decides (step ∷ []) = decided_by (λ is. (step, ([], refl), is)) (one_end P step) (decides step.clause)
ends_decided P decides (first ∷ second ∷ steps) =
    decided_by (λ (step, (front, is), holds). (step, (first ∷ front, ap (λ (ss : List Step). first ∷ ss) is), holds)) (later_end P first second steps) (ends_decided P decides (second ∷ steps))

-- each literal of a clause is the negation of an assumption
abbrev pub AreNegations : Query → List Lit → Type 0
AreNegations query clause = All (λ lit. Contains query.assumed (opposite lit)) clause

shared_decided : (problem : Problem) (shared : List Step) → Decided (SharedPasses problem shared)
shared_decided problem shared = steps_decided problem.edges problem.kinds (λ clauses. clauses) (λ clauses. clauses) problem.clauses shared

own_decided : (problem : Problem) (shared : List Step) (query : Query) (certificate : Certificate) → Decided (PassesOver problem shared query certificate)
own_decided problem shared query certificate =
    steps_decided problem.edges (problem.kinds ++ query.locals) (λ clauses. problem.clauses ++ clauses_of shared ++ clauses) (λ clauses. problem.clauses ++ clauses) [] certificate.steps

refutes_decided : (problem : Problem) (shared : List Step) (query : Query) (certificate : Certificate) → Decided (RefutesOver problem shared query certificate)
refutes_decided problem shared query certificate =
    decided_by (λ all. record { checks = record { shares = all.0; own = all.1.0 }; ends = all.1.1 }) (λ refutes. (refutes.checks.shares, (refutes.checks.own, refutes.ends)))
    (both_decided (shared_decided problem shared) (both_decided (own_decided problem shared query certificate)
    (ends_decided (AreNegations query) (λ clause. all_decided (λ lit. Contains query.assumed (opposite lit)) clause (λ lit _. contains_decided lits_cases query.assumed (opposite lit))) certificate.steps)))

-- whether a shared list passes
pub shared_passes : Problem → List Step → Bool
shared_passes problem shared = holds (shared_decided problem shared)

-- whether a certificate refutes a query over a shared list
pub refutes_over : Problem → List Step → Query → Certificate → Bool
refutes_over problem shared query certificate = holds (refutes_decided problem shared query certificate)

-- the tests say exactly which lists pass and which certificates refute
pub record RefutationsAreDecided : Type 0 where
  pub shared : (problem : Problem) (shared : List Step) → (shared_passes problem shared ≡ true) ↔ SharedPasses problem shared
  pub refutes : (problem : Problem) (shared : List Step) (query : Query) (certificate : Certificate) → (refutes_over problem shared query certificate ≡ true) ↔ RefutesOver problem shared query certificate

pub refutations_decided : RefutationsAreDecided
unfolding shared_passes shared_decided refutes_over refutes_decided
refutations_decided = record {
  shared = λ problem shared. holds_exactly (shared_decided problem shared);
  refutes = λ problem shared query certificate. holds_exactly (refutes_decided problem shared query certificate);
}
