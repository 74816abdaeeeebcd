-- The conflict of a false clause, and that of a cycle.
use Rattle.std.proofs.Common.{◌≡◌, sym, ◌∙◌, ap, subst, ℕ, ◌<◌, ◌≤◌, Some, List, [], ◌∷◌, length, get_or, map, take, Contains, inl, arith}
use Rattle.std.proofs.lemmas.List.{take_all}
use Rattle.std.proofs.lemmas.List.Elements.{Contains-get_or}
use Rattle.gp_clause.specs.declared.edge.Edge.{Edge}
use Rattle.gp_clause.specs.declared.kind.Kind.{Kind}
use Rattle.gp_clause.specs.declared.lit.Lit.{Lit}
use Rattle.gp_clause.specs.declared.problem.Problem.{Problem}
use Rattle.gp_clause.specs.declared.problem.Query.{Query}
use Rattle.gp_clause.specs.Clause.{NamesBelow}
use Rattle.gp_clause.specs.Closure.Derived.{given}
use Rattle.gp_clause.specs.Lit.{opposite}
use Rattle.gp_certificate.specs.Step.{Passes}
use Rattle.gp_base.specs.ListLaws.{contains_map, here}
use Rattle.gp_sat.specs.State.{SolverForm, assigned, clause_at}
use Rattle.gp_sat.specs.Standing.{IsFalse, Each}
use Rattle.gp_sat.specs.Changes.{IsConflict as IsFalseClause}
use Rattle.gp_sat.specs.SolverLaws.{within_values}
use Rattle.gp_search.specs.declared.engine.Engine.{Engine}
use Rattle.gp_search.specs.Inside.{all_kinds, false_lit, IsTurning, IsConflict}
use Rattle.gp_search.proofs.Trails.{conflict_present}

-- a clause passes with itself
passes_itself : (edges : List Edge) (kinds : List Kind) (clause : List Lit) → NamesBelow (length kinds) clause → Passes edges kinds (clause ∷ []) clause
passes_itself edges kinds clause names = record {
  in_range = names;
  refuted = inl (clause, here clause [], λ lit is. given (opposite lit) (contains_map opposite clause lit is));
}

-- a false clause is a conflict
pub false_conflict : (problem : Problem) (query : Query) (engine : Engine) (number : ℕ) (lits : List Lit) → IsTurning problem query engine → IsFalseClause engine.solver number
    → lits ≡ clause_at engine.solver.clauses number → IsConflict problem query engine.solver lits (Some number)
false_conflict problem query engine number lits turning fails same =
    let P : List Lit → Type 0 = λ ls. IsConflict problem query engine.solver ls (Some number) in
    subst P (sym same) (record {
      all_false = fails.1;
      present = conflict_present engine.solver number turning.sound fails.0 fails.1;
      attached = fails.0;
      passes = passes_itself problem.edges (all_kinds problem query) (clause_at engine.solver.clauses number) (turning.whole.stored.named number fails.0);
    })

-- the tags of a cycle are variables of the solver
pub tag_within : (s : SolverForm) (tags items : List ℕ) (k d : ℕ) → Each (IsFalse (assigned s)) (map (false_lit s) tags) → items ≡ tags → k < length items → get_or items k d < length s.values
tag_within s tags items k d all_false same within =
    let P : List ℕ → Type 0 = λ xs. Contains xs (get_or items k d) in
    let fell = all_false (false_lit s (get_or items k d)) (contains_map (false_lit s) tags (get_or items k d) (subst P same (Contains-get_or items k d within))) in
    within_values s.values (get_or items k d) fell.0 fell.1

-- all tags of the cycle
pub all_tags : (s : SolverForm) (tags items : List ℕ) (lits : List Lit) (k : ℕ) → lits ≡ map (false_lit s) (take k tags) → items ≡ tags → length items ≤ k → lits ≡ map (false_lit s) tags
all_tags s tags items lits k are same past =
    let enough : length tags ≤ k = omega (arith, past, ap (λ (xs : List ℕ). length xs) same) in
    are ∙ ap (map (false_lit s)) (take_all k tags enough)
