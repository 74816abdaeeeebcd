-- Laws: what passes with more clauses and literals, and with the variables of its clauses alone.
use Rattle.std.proofs.Common.{◌≡◌, ℕ, ◌<◌, ◌≤◌, List, ◌++◌, length, get_or, All, Contains, inl, inr, sym, ◌∙◌, arith}
use Rattle.std.specs.List.{slice_get}
use Rattle.std.proofs.lemmas.List.{length-append}
use Rattle.std.proofs.lemmas.List.Elements.{All-contains, All-map, All-weaker}
use Rattle.gp_clause.specs.declared.edge.Edge.{Edge}
use Rattle.gp_clause.specs.declared.kind.Kind.{Kind}
use Rattle.gp_clause.specs.declared.lit.Lit.{Lit}
use Rattle.gp_clause.specs.declared.problem.Problem.{Problem}
use Rattle.gp_clause.specs.Clause.{NamesBelow}
use Rattle.gp_clause.specs.Closure.{Derived}
use Rattle.gp_clause.specs.Closure.Derived.{given, forced}
use Rattle.gp_clause.specs.ClosureLaws.{derived_more}
use Rattle.gp_clause.specs.Lit.{opposite, negations}
use Rattle.gp_certificate.specs.Step.{IsDerivedBound, LeadsToConflict, Passes, MorePasses}
use Rattle.gp_base.specs.ListLaws.{contains_map, slice_get_front}

-- a clause that passes with clauses of some first variables passes with any other variables after them
pub passes_alike : (edges : List Edge) (kinds other : List Kind) (n : ℕ) (clauses : List (List Lit)) (clause : List Lit) → n ≤ length other
    → ((variable : ℕ) → variable < n → slice_get other variable ≡ slice_get kinds variable) → All (NamesBelow n) clauses → NamesBelow n clause
    → Passes edges kinds clauses clause → Passes edges other clauses clause
passes_alike edges kinds other n clauses clause enough alike below names passes = record {
  in_range = λ k d within. let first : (get_or clause k d).variable < n = names k d within in omega arith;
  refuted = at passes.refuted;
}
  where
    start_below : NamesBelow n (negations clause)
    start_below = All-map (λ (lit : Lit). lit.variable < n) opposite clause names

    first : (lit : Lit) → Derived (negations clause) clauses lit → lit.variable < n
    first lit (given l is) = All-contains (λ (l : Lit). l.variable < n) (negations clause) l start_below is
    first lit (forced one l among within others) = All-contains (λ (l : Lit). l.variable < n) one l (All-contains (NamesBelow n) clauses one below among) within

    bound : (edge : Edge) → IsDerivedBound kinds clauses (negations clause) edge → IsDerivedBound other clauses (negations clause) edge
    bound edge (lit, kind, from, got, is) = (lit, kind, from, alike lit.variable (first lit from) ∙ got, is)

    at : LeadsToConflict edges kinds clauses (negations clause) → LeadsToConflict edges other clauses (negations clause)
    at (inl conflict) = inl conflict
    at (inr (bounds, derived, cycle)) = inr (bounds, All-weaker (IsDerivedBound kinds clauses (negations clause)) (IsDerivedBound other clauses (negations clause)) bound bounds derived, cycle)

-- more clauses refute more from more
pub refuted_more : (edges : List Edge) (kinds : List Kind) (start : List Lit) (clauses : List (List Lit)) (longer : List Lit) (more : List (List Lit)) → All (Contains longer) start → All (Contains more) clauses
    → LeadsToConflict edges kinds clauses start → LeadsToConflict edges kinds more longer
refuted_more edges kinds start clauses longer more starts among (inl (clause, one, negated)) =
    inl (clause, All-contains (Contains more) clauses clause among one, λ lit is. derived_more start clauses longer more starts among (opposite lit) (negated lit is))
refuted_more edges kinds start clauses longer more starts among (inr (bounds, derived, cycle)) =
    inr (bounds, All-weaker (IsDerivedBound kinds clauses start) (IsDerivedBound kinds more longer) bound bounds derived, cycle)
  where
    bound : (edge : Edge) → IsDerivedBound kinds clauses start edge → IsDerivedBound kinds more longer edge
    bound edge (lit, kind, from, at, is) = (lit, kind, derived_more start clauses longer more starts among lit from, at, is)

pub more_pass : MorePasses
more_pass edges kinds clauses more clause longer among literals in_range passes = record {
  in_range = in_range;
  refuted = refuted_more edges kinds (negations clause) clauses (negations longer) more
      (All-map (Contains (negations longer)) opposite clause (All-weaker (Contains longer) (λ lit. Contains (negations longer) (opposite lit)) (λ lit is. contains_map opposite longer lit is) clause literals)) among passes.refuted;
}

-- where a clause and all that it passes with have problem variables only, it passes whatever the other variables are
pub passes_bare : (problem : Problem) (own other : List Kind) (clauses : List (List Lit)) (clause : List Lit) → All (NamesBelow (length problem.kinds)) clauses → NamesBelow (length problem.kinds) clause
    → Passes problem.edges (problem.kinds ++ own) clauses clause → Passes problem.edges (problem.kinds ++ other) clauses clause
passes_bare problem own other clauses clause below names passes =
    passes_alike problem.edges (problem.kinds ++ own) (problem.kinds ++ other) (length problem.kinds) clauses clause (omega (arith, length-append problem.kinds other))
    (λ variable first. slice_get_front problem.kinds other variable first ∙ sym (slice_get_front problem.kinds own variable first)) below names passes
