-- A full assignment that clauses and graph keep meets the problem and the query.
use Rattle.std.proofs.Common.{◌≡◌, refl, sym, ◌∙◌, ap, subst, ℕ, ◌+◌, ◌<◌, Bool, false, not, Option, Some, None, ℤ, List, length, get_or, map, All, Contains, ◌⊎◌, inl, inr, arith}
use Rattle.std.specs.List.{slice_get}
use Rattle.std.proofs.lemmas.Option.{same_Some, slice_get_within, slice_get-get_or}
use Rattle.std.proofs.lemmas.List.{length-append, take_all}
use Rattle.std.proofs.lemmas.List.Elements.{All-contains, Contains-append_left, Contains-append_right}
use Rattle.gp_clause.specs.declared.edge.Edge.{Edge}
use Rattle.gp_clause.specs.declared.kind.Kind.{Kind}
use Rattle.gp_clause.specs.declared.lit.Lit.{Lit}
use Rattle.gp_clause.specs.declared.problem.Problem.{Problem}
use Rattle.gp_clause.specs.declared.problem.Query.{Query}
use Rattle.gp_clause.specs.declared.valuation.Valuation.{Valuation}
use Rattle.gp_clause.specs.Clause.{HoldsClause, NamesBelow, TrueOrFalse}
use Rattle.gp_clause.specs.Edge.{Keeps}
use Rattle.gp_clause.specs.Kind.{bound_of, KeepsBound, bound_in, bound_at}
use Rattle.gp_clause.specs.Lit.{HoldsLit, opposite}
use Rattle.gp_clause.specs.Valuation.{Meets, truth_of, place_of}
use Rattle.gp_derivation.specs.declared.log.LogEntry.{LogEntry}
use Rattle.gp_derivation.specs.Log.{logged}
use Rattle.gp_base.specs.ListLaws.{contains_map, slice_get_front, all_from_contains}
use Rattle.gp_difference.specs.declared.bound.Bound.{Bound}
use Rattle.gp_difference.specs.Bounds.{untagged, tagged}
use Rattle.gp_difference.specs.Graph.{GraphForm, HasPlaces, bounds_of, all_edges}
use Rattle.gp_difference.specs.Places.{place_at}
use Rattle.gp_sat.specs.declared.assigned.Assigned.{Assigned}
use Rattle.gp_sat.specs.State.{SolverForm, assigned, clause_at}
use Rattle.gp_sat.specs.Standing.{IsQuiet}
use Rattle.gp_sat.specs.Sound.{IsSound, true_lit}
use Rattle.gp_search.specs.declared.engine.Engine.{Engine}
use Rattle.gp_search.specs.Bounds.{under, bounds_along}
use Rattle.gp_search.specs.Inside.{all_kinds, IsTurning, IsSettled}
use Rattle.gp_search.specs.Moves.{IsAllAssigned, IsAllTrue, IsTruthOf, is_true}
use Rattle.gp_search.proofs.LearnedSteps.{clause_got, clauses_counted}
use Rattle.gp_search.proofs.Lists.{filtered}

-- the truth value of an assigned variable
truth_is : (s : SolverForm) (names : ℕ) (truth : List Bool) (v : ℕ) (a : Assigned) → IsTruthOf s names truth → v < names → assigned s v ≡ Some a → get_or truth v false ≡ a.positive
truth_is s names truth v a told below is = told.same v below ∙ ap is_true is

-- a base clause is true
base_true : (s : SolverForm) (names : ℕ) (truth : List Bool) (clause : List Lit) → TrueOrFalse → IsSound s → IsTruthOf s names truth → IsAllAssigned names s → NamesBelow names clause → IsQuiet s.level (assigned s) clause
    → HoldsClause (λ v. get_or truth v false) clause
base_true s names truth clause laws sound told all names_below quiet = at (laws (λ v. get_or truth v false) clause)
  where
    at : HoldsClause (λ v. get_or truth v false) clause ⊎ All (λ lit. HoldsLit (λ v. get_or truth v false) (opposite lit)) clause → HoldsClause (λ v. get_or truth v false) clause
    at (inl holds) = holds
    at (inr negated) = absurd (quiet.not_false (λ lit is.
        let below : lit.variable < names = All-contains (λ (l : Lit). l.variable < names) clause lit names_below is in
        let one = all lit.variable below in
        let value : get_or truth lit.variable false ≡ not lit.positive = All-contains (λ (l : Lit). HoldsLit (λ v. get_or truth v false) (opposite l)) clause lit negated is in
        (one.0, one.1, sym (truth_is s names truth lit.variable one.0 told below one.1) ∙ value, (sound.ordered.present lit.variable one.0 one.1).0)))

-- the base clauses are those of the first numbers
pub base_at : (problem : Problem) (query : Query) (engine : Engine) → IsTurning problem query engine → (clause : List Lit) → Contains problem.clauses clause
    → (number : ℕ) × (number < length problem.clauses) × (clause_at engine.solver.clauses number ≡ clause)
base_at problem query engine turning clause (number, within, is) =
    let all : number < length engine.solver.clauses = omega (arith, within, clauses_counted problem engine.log.items engine.solver.clauses turning.whole.stored.lits) in
    let got : slice_get (logged problem engine.log.items) number ≡ Some (clause_at engine.solver.clauses number) = clause_got problem engine.log.items engine.solver.clauses number turning.whole.stored.lits all in
    let front : slice_get (logged problem engine.log.items) number ≡ slice_get problem.clauses number = slice_get_front problem.clauses (map (λ (entry : LogEntry). entry.step.clause) engine.log.items) number within in
    let one : slice_get problem.clauses number ≡ Some (get_or problem.clauses number clause) = slice_get-get_or problem.clauses number clause within in
    let same : clause_at engine.solver.clauses number ≡ get_or problem.clauses number clause =
    let both : Some (clause_at engine.solver.clauses number) ≡ Some (get_or problem.clauses number clause) = sym got ∙ (front ∙ one) in same_Some (clause_at engine.solver.clauses number) (get_or problem.clauses number clause) both in
    (number, within, same ∙ is)

-- the bound of a true literal of the trail is kept
pub bound_kept : (kinds : List Kind) (graph : GraphForm) (trail : List Lit) (lit : Lit) (place : ℕ → ℤ) → graph.kept ≡ bounds_along kinds trail → All (Keeps place) (all_edges graph) → Contains trail lit
    → KeepsBound place (bound_at kinds lit)
bound_kept kinds graph trail lit place same keeps is = at (bound_at kinds lit) refl
  where
    at : (o : Option Edge) → bound_at kinds lit ≡ o → KeepsBound place o
    at None none = tt
    at (Some edge) some =
        let f = λ (l : Lit). under l.variable (bound_at kinds l) in
        let one : Contains (bounds_along kinds trail) (tagged edge lit.variable) = filtered f trail lit (tagged edge lit.variable) is (ap (under lit.variable) some) in
        let two : Contains graph.kept (tagged edge lit.variable) = subst (λ (bs : List Bound). Contains bs (tagged edge lit.variable)) (sym same) one in
        let three : Contains (bounds_of graph) (tagged edge lit.variable) = Contains-append_right (map untagged graph.edges) graph.kept (tagged edge lit.variable) two in
        All-contains (Keeps place) (all_edges graph) edge keeps (contains_map (λ (b : Bound). b.edge) (bounds_of graph) (tagged edge lit.variable) three)

-- the fixed edges are among all
pub edge_among : (graph : GraphForm) (edge : Edge) → Contains graph.edges edge → Contains (all_edges graph) edge
edge_among graph edge is =
    let one : Contains (map untagged graph.edges) (untagged edge) = contains_map untagged graph.edges edge is in
    contains_map (λ (b : Bound). b.edge) (bounds_of graph) (untagged edge) (Contains-append_left (map untagged graph.edges) graph.kept (untagged edge) one)

-- the true literal of an assigned variable stands in the trail
in_trail : (s : SolverForm) (v : ℕ) (a : Assigned) → IsSound s → assigned s v ≡ Some a → Contains s.trail (true_lit v a)
in_trail s v a sound is = (a.place, sound.ordered.within v a is, sound.ordered.on_trail v a (true_lit v a) is)

pub model_meets : (problem : Problem) (query : Query) (engine : Engine) (valuation : Valuation) → TrueOrFalse → IsTurning problem query engine → IsSettled engine
    → IsAllAssigned (length (all_kinds problem query)) engine.solver → IsAllTrue query.assumed engine.solver → HasPlaces engine.graph
    → IsTruthOf engine.solver (length (all_kinds problem query)) valuation.truth → valuation.places ≡ engine.graph.places → Meets problem query valuation
model_meets problem query engine valuation laws turning settled all assumed feasible told places =
    let s : SolverForm = engine.solver in
    let kinds : List Kind = all_kinds problem query in
    let size : length kinds ≡ length problem.kinds + length query.locals = length-append problem.kinds query.locals in
    let keeps : All (Keeps (place_of valuation)) (all_edges engine.graph) =
    let P : List ℤ → Type 0 = λ ps. All (Keeps (place_at ps)) (all_edges engine.graph) in subst P (sym places) feasible.keeps in
    let kept : engine.graph.kept ≡ bounds_along kinds s.trail = turning.asserted.kept ∙ ap (bounds_along kinds) (take_all engine.asserted s.trail (omega (arith, settled.all))) in
    record {
      truth = omega (arith, told.size, size);
      places = ap (λ (ps : List ℤ). length ps) places ∙ (feasible.placed ∙ turning.whole.graph.points);
      edges = all_from_contains (Keeps (place_of valuation)) problem.edges (λ edge is.
          All-contains (Keeps (place_of valuation)) (all_edges engine.graph) edge keeps (edge_among engine.graph edge (subst (λ (es : List Edge). Contains es edge) (sym turning.whole.graph.edges) is)));
      clauses = all_from_contains (HoldsClause (truth_of valuation)) problem.clauses (λ clause is.
          let number = base_at problem query engine turning clause is in
          let attached = turning.whole.stored.base number.0 number.1 in
          let P : List Lit → Type 0 = λ c. HoldsClause (truth_of valuation) c in
          subst P number.2 (base_true s (length kinds) valuation.truth (clause_at s.clauses number.0) laws turning.sound told all (turning.whole.stored.named number.0 attached) (settled.closed number.0 attached)));
      assumed = all_from_contains (HoldsLit (truth_of valuation)) query.assumed (λ lit is.
          let one = assumed lit is in
          let below : lit.variable < length kinds = turning.reasoned.below lit.variable one.0 one.1 in
          truth_is s (length kinds) valuation.truth lit.variable one.0 told below one.1 ∙ one.2);
      bounds = λ v kind got.
          let below : v < length kinds = slice_get_within kinds v kind got in
          let one = all v below in
          let lit : Lit = true_lit v one.0 in
          let bound : KeepsBound (place_of valuation) (bound_at kinds lit) = bound_kept kinds engine.graph s.trail lit (place_of valuation) kept keeps (in_trail s v one.0 turning.sound one.1) in
          let by_kind : bound_at kinds lit ≡ bound_of kind (truth_of valuation v) =
          ap (λ (o : Option Kind). bound_in o one.0.positive) got ∙ ap (bound_of kind) (sym (truth_is s (length kinds) valuation.truth v one.0 told below one.1)) in
          subst (KeepsBound (place_of valuation)) by_kind bound;
    }
