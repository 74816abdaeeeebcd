-- The graph takes the bound of the next literal of the trail.
use Rattle.std.proofs.Common.{◌≡◌, refl, sym, ◌∙◌, ap, subst, ℕ, ◌+◌, ◌-◌, ◌<◌, ◌≤◌, Bool, true, false, Option, Some, None, pos, negsuc, List, [], ◌∷◌, ◌++◌, length, get_or, map, take, All, Contains, arith}
use Rattle.std.specs.List.{slice_get}
use Rattle.std.proofs.lemmas.Int.{ints}
use Rattle.std.proofs.lemmas.Option.{none-some, same_Some}
use Rattle.std.proofs.lemmas.List.{length_push, length-take-le, take_more}
use Rattle.std.proofs.lemmas.List.Elements.{All-append, filter_map-append, Contains-push, Contains-get_or}
use Rattle.gp_clause.specs.declared.edge.Edge.{Edge}
use Rattle.gp_clause.specs.declared.kind.Kind.{Kind}
use Rattle.gp_clause.specs.declared.kind.Kind.TheVariants.{Free, Order, Span}
use Rattle.gp_clause.specs.declared.lit.Lit.{Lit}
use Rattle.gp_clause.specs.declared.problem.Problem.{Problem}
use Rattle.gp_clause.specs.declared.problem.Query.{Query}
use Rattle.gp_clause.specs.Kind.{bound_of, bound_at}
use Rattle.gp_clause.specs.Problem.{IsValidKind}
use Rattle.gp_base.specs.ListLaws.{contains_from_take, contains_map, got_all}
use Rattle.gp_difference.specs.declared.bound.Bound.{Bound}
use Rattle.gp_difference.specs.Bounds.{tagged, untagged, Explains}
use Rattle.gp_difference.specs.Graph.{GraphForm, bounds_of, IsKept, IsRefused}
use Rattle.gp_difference.specs.Places.{IsEdgeOf}
use Rattle.gp_sat.specs.State.{SolverForm, assigned}
use Rattle.gp_sat.specs.Looking.{IsTrueLit}
use Rattle.gp_sat.specs.Standing.{Each}
use Rattle.gp_sat.specs.SolverLaws.{trail_counts}
use Rattle.gp_search.specs.declared.engine.Engine.{Engine}
use Rattle.gp_search.specs.Bounds.{under, bounds_along}
use Rattle.gp_search.specs.Inside.{all_kinds, false_lit, IsTurning, IsConflict}
use Rattle.gp_search.proofs.Cycles.{IsKnown, IsClash, known, clash, trail_true, kind_from_bound}
use Rattle.gp_search.proofs.Cycles.IsKnown.{said}
use Rattle.gp_search.proofs.Lists.{filtered}
use Rattle.gp_search.proofs.Wholes.{whole_moved}

-- the bound of a valid kind is within a graph of its points
edge_within : (points : ℕ) (kind : Kind) (positive : Bool) (edge : Edge) → IsValidKind points kind → bound_of kind positive ≡ Some edge → IsEdgeOf points edge
edge_within points Free positive edge valid is = absurd (none-some edge is)
edge_within points (Order a b) true edge valid is = subst (λ (e : Edge). IsEdgeOf points e) (same_Some (record { a = a; b = b; c = negsuc 0 }) edge is)
    (record { first = valid.0; second = valid.1; low = omega (arith, ints); high = omega (arith, ints) })
edge_within points (Order a b) false edge valid is = subst (λ (e : Edge). IsEdgeOf points e) (same_Some (record { a = b; b = a; c = negsuc 0 }) edge is)
    (record { first = valid.1; second = valid.0; low = omega (arith, ints); high = omega (arith, ints) })
edge_within points (Span a b c) true edge valid is = subst (λ (e : Edge). IsEdgeOf points e) (same_Some (record { a = a; b = b; c = pos c }) edge is)
    (record { first = valid.0; second = valid.1; low = omega (arith, ints, valid.2); high = omega (arith, ints, valid.2) })
edge_within points (Span a b c) false edge valid is = subst (λ (e : Edge). IsEdgeOf points e) (same_Some (record { a = b; b = a; c = negsuc c }) edge is)
    (record { first = valid.1; second = valid.0; low = omega (arith, ints, valid.2); high = omega (arith, ints, valid.2) })

-- so is that of each literal
pub lit_within : (problem : Problem) (query : Query) (engine : Engine) (lit : Lit) (edge : Edge) → IsTurning problem query engine → bound_at (all_kinds problem query) lit ≡ Some edge
    → IsEdgeOf engine.graph.points edge
lit_within problem query engine lit edge turning is =
    let kind = kind_from_bound (slice_get (all_kinds problem query) lit.variable) lit.positive edge is in
    let valid : All (IsValidKind problem.points) (all_kinds problem query) = All-append (IsValidKind problem.points) problem.kinds query.locals turning.whole.valid.kinds turning.whole.asked.locals in
    let one : IsValidKind problem.points kind.0 = got_all (IsValidKind problem.points) (all_kinds problem query) lit.variable kind.0 valid kind.1 in
    subst (λ (n : ℕ). IsEdgeOf n edge) (sym turning.whole.graph.points) (edge_within problem.points kind.0 lit.positive edge one kind.2)

-- there are no more bounds than literals
pub few_bounds : (kinds : List Kind) (lits : List Lit) → length (bounds_along kinds lits) ≤ length lits
few_bounds kinds [] = omega arith
few_bounds kinds (lit ∷ lits) = at (under lit.variable (bound_at kinds lit)) refl (few_bounds kinds lits)
  where
    at : (o : Option Bound) → under lit.variable (bound_at kinds lit) ≡ o → length (bounds_along kinds lits) ≤ length lits → length (bounds_along kinds (lit ∷ lits)) ≤ length (lit ∷ lits)
    at None is rest = rw is (omega (arith, rest))
    at (Some bound) is rest = rw is (omega (arith, rest))

-- the bounds along one more literal
pub bounds_none : (kinds : List Kind) (lits : List Lit) (i : ℕ) (d : Lit) → i < length lits → bound_at kinds (get_or lits i d) ≡ None
    → bounds_along kinds (take (i + 1) lits) ≡ bounds_along kinds (take i lits)
bounds_none kinds lits i d within is =
    let f = λ (lit : Lit). under lit.variable (bound_at kinds lit) in
    let last : bounds_along kinds (get_or lits i d ∷ []) ≡ [] = rw is refl in
    ap (bounds_along kinds) (take_more lits i d within) ∙ (filter_map-append f (take i lits) (get_or lits i d ∷ []) ∙ (ap (λ (bs : List Bound). bounds_along kinds (take i lits) ++ bs) last ∙ nothing (bounds_along kinds (take i lits))))
  where
    nothing : (bs : List Bound) → bs ++ [] ≡ bs
    nothing [] = refl
    nothing (b ∷ bs) = ap (λ (xs : List Bound). b ∷ xs) (nothing bs)

pub bounds_some : (kinds : List Kind) (lits : List Lit) (i : ℕ) (d : Lit) (edge : Edge) → i < length lits → bound_at kinds (get_or lits i d) ≡ Some edge
    → bounds_along kinds (take (i + 1) lits) ≡ bounds_along kinds (take i lits) ++ tagged edge (get_or lits i d).variable ∷ []
bounds_some kinds lits i d edge within is =
    let f = λ (lit : Lit). under lit.variable (bound_at kinds lit) in
    let last : bounds_along kinds (get_or lits i d ∷ []) ≡ tagged edge (get_or lits i d).variable ∷ [] = rw is refl in
    ap (bounds_along kinds) (take_more lits i d within) ∙ (filter_map-append f (take i lits) (get_or lits i d ∷ []) ∙ ap (λ (bs : List Bound). bounds_along kinds (take i lits) ++ bs) last)

-- there is room for the next bound
pub room_for_next : (problem : Problem) (query : Query) (engine : Engine) → IsTurning problem query engine → engine.asserted < length engine.solver.trail → 0 < engine.graph.room
room_for_next problem query engine turning left =
    let all : List Lit = engine.solver.trail in
    let kept : length engine.graph.kept ≡ length (bounds_along (all_kinds problem query) (take engine.asserted all)) = ap (λ (bs : List Bound). length bs) turning.asserted.kept in
    omega (
      arith,
      kept,
      few_bounds (all_kinds problem query) (take engine.asserted all),
      length-take-le engine.asserted all turning.asserted.within,
      trail_counts engine.solver.values all engine.solver.level turning.sound.ordered,
      turning.asserted.room,
    )

-- the engine with one bound more in its graph, or with none more
pub asserted_some : (problem : Problem) (query : Query) (engine : Engine) (graph : GraphForm) (d : Lit) (edge : Edge) (next : ℕ) → IsTurning problem query engine → engine.asserted < length engine.solver.trail
    → bound_at (all_kinds problem query) (get_or engine.solver.trail engine.asserted d) ≡ Some edge → IsKept engine.graph (tagged edge (get_or engine.solver.trail engine.asserted d).variable) graph
    → next ≡ engine.asserted + 1 → IsTurning problem query (record engine { graph = graph; asserted = next })
asserted_some problem query engine graph d edge next turning left is kept one_more = record {
  whole = whole_moved problem query engine (record engine { graph = graph; asserted = next }) (record { log = refl; pure = refl; begins = refl; learned = refl; tester = refl }) turning.whole refl refl
      (record { points = ap (λ (g : GraphForm). g.points) kept.added ∙ turning.whole.graph.points; edges = ap (λ (g : GraphForm). g.edges) kept.added ∙ turning.whole.graph.edges });
  variables = turning.variables;
  used = turning.used;
  sound = turning.sound;
  reasoned = turning.reasoned;
  asserted = record {
    within = omega (arith, left, one_more);
    kept = ap (λ (g : GraphForm). g.kept) kept.added ∙ (ap (λ (bs : List Bound). bs ++ tagged edge (get_or engine.solver.trail engine.asserted d).variable ∷ []) turning.asserted.kept
        ∙ (sym (bounds_some (all_kinds problem query) engine.solver.trail engine.asserted d edge left is) ∙ ap (λ (n : ℕ). bounds_along (all_kinds problem query) (take n engine.solver.trail)) (sym one_more)));
    present = λ place e above within. turning.asserted.present place e (omega (arith, above, one_more)) within;
    room =
        let longer : length graph.kept ≡ length engine.graph.kept + 1 = ap (λ (g : GraphForm). length g.kept) kept.added ∙ length_push engine.graph.kept (tagged edge (get_or engine.solver.trail engine.asserted d).variable) in
        let less : graph.room ≡ engine.graph.room - 1 = ap (λ (g : GraphForm). g.room) kept.added in
        omega (arith, longer, less, turning.asserted.room, room_for_next problem query engine turning left);
  };
  assuming = turning.assuming;
  levels = turning.levels;
  kinds = turning.kinds;
  taught = turning.taught;
}

pub asserted_none : (problem : Problem) (query : Query) (engine : Engine) (d : Lit) (next : ℕ) → IsTurning problem query engine → engine.asserted < length engine.solver.trail
    → bound_at (all_kinds problem query) (get_or engine.solver.trail engine.asserted d) ≡ None → next ≡ engine.asserted + 1 → IsTurning problem query (record engine { asserted = next })
asserted_none problem query engine d next turning left is one_more = record {
  whole = whole_moved problem query engine (record engine { asserted = next }) (record { log = refl; pure = refl; begins = refl; learned = refl; tester = refl }) turning.whole refl refl turning.whole.graph;
  variables = turning.variables;
  used = turning.used;
  sound = turning.sound;
  reasoned = turning.reasoned;
  asserted = record {
    within = omega (arith, left, one_more);
    kept = turning.asserted.kept ∙ (sym (bounds_none (all_kinds problem query) engine.solver.trail engine.asserted d left is) ∙ ap (λ (n : ℕ). bounds_along (all_kinds problem query) (take n engine.solver.trail)) (sym one_more));
    present = λ place e above within. turning.asserted.present place e (omega (arith, above, one_more)) within;
    room = turning.asserted.room;
  };
  assuming = turning.assuming;
  levels = turning.levels;
  kinds = turning.kinds;
  taught = turning.taught;
}

-- the tag of the new bound is one of the cycle's
last_tag : (bounds : List Bound) (edge : Edge) (tag : ℕ) (tags : List ℕ) → Explains bounds (tagged edge tag) tags → Contains tags tag
last_tag bounds edge tag tags (walk, closes, are) =
    subst (λ (ts : List ℕ). Contains ts tag) (sym are) (filtered (λ (b : Bound). b.tag) (walk ++ tagged edge tag ∷ []) (tagged edge tag) tag (Contains-push walk (tagged edge tag)) refl)

-- the tags of a refused bound name a conflict
pub cycle_conflict : (problem : Problem) (query : Query) (engine : Engine) (graph : GraphForm) (d : Lit) (edge : Edge) → IsTurning problem query engine → engine.asserted < length engine.solver.trail
    → bound_at (all_kinds problem query) (get_or engine.solver.trail engine.asserted d) ≡ Some edge → IsRefused engine.graph (tagged edge (get_or engine.solver.trail engine.asserted d).variable) graph
    → IsConflict problem query engine.solver (map (false_lit engine.solver) graph.cycle) None
cycle_conflict problem query engine graph d edge turning left is refused =
    let s : SolverForm = engine.solver in
    let lit : Lit = get_or s.trail engine.asserted d in
    let holds : (l : Lit) → Contains s.trail l → IsTrueLit (assigned s) l = trail_true (assigned s) s.trail s.level turning.sound.ordered in
    let front : Each (IsTrueLit (assigned s)) (take engine.asserted s.trail) = λ l among. holds l (contains_from_take engine.asserted s.trail l among) in
    let same : bounds_of engine.graph ≡ map untagged problem.edges ++ bounds_along (all_kinds problem query) (take engine.asserted s.trail) =
    λ i. map untagged (turning.whole.graph.edges i) ++ turning.asserted.kept i in
    let olds : (b : Bound) → Contains (bounds_of engine.graph) b → IsKnown problem.edges (all_kinds problem query) (assigned s) b =
    λ b among. known problem.edges (all_kinds problem query) (assigned s) (take engine.asserted s.trail) front b (subst (λ (bs : List Bound). Contains bs b) same among) in
    let found : IsClash problem.edges (all_kinds problem query) s graph.cycle =
    clash problem.edges (all_kinds problem query) s (bounds_of engine.graph) (tagged edge lit.variable) graph.cycle olds (said lit edge (holds lit (Contains-get_or s.trail engine.asserted d left)) is) refused.explained in
    record {
      all_false = found.all_false;
      present = λ _. (
        false_lit s lit.variable,
        contains_map (false_lit s) graph.cycle lit.variable (last_tag (bounds_of engine.graph) edge lit.variable graph.cycle refused.explained),
        turning.asserted.present engine.asserted d (omega arith) left,
      );
      attached = tt;
      passes = found.passes;
    }
