-- The clause of a negative cycle of bounds.
use Rattle.std.proofs.Common.{◌≡◌, refl, sym, ◌∙◌, ap, subst, ℕ, ◌<◌, Bool, true, false, not, Option, Some, None, ℤ, pos, ◌+ℤ◌, ◌<ℤ◌, List, [], ◌∷◌, ◌++◌, length, get_or, map, Contains, inl, inr, arith}
use Rattle.std.specs.List.{filter_map, slice_get}
use Rattle.std.proofs.lemmas.Int.{ints}
use Rattle.std.proofs.lemmas.Option.{none-some, same_Some, slice_get_within}
use Rattle.std.proofs.lemmas.List.Elements.{Contains-append_left, Contains-append_right, Contains-append_cases, Contains-push_cases}
use Rattle.gp_clause.specs.declared.edge.Edge.{Edge}
use Rattle.gp_clause.specs.declared.kind.Kind.{Kind}
use Rattle.gp_clause.specs.declared.lit.Lit.{Lit}
use Rattle.gp_clause.specs.Closure.{Derived}
use Rattle.gp_clause.specs.Closure.Derived.{given}
use Rattle.gp_clause.specs.Kind.{bound_of, bound_in, bound_at}
use Rattle.gp_clause.specs.Lit.{opposite, negations}
use Rattle.gp_clause.specs.Walk.{IsWalk, IsAmong, weight}
use Rattle.gp_certificate.specs.Step.{IsDerivedBound, Passes}
use Rattle.gp_base.specs.ListLaws.{all_from_contains, contains_from_map, contains_map, first_or_rest, here, there}
use Rattle.gp_difference.specs.declared.bound.Bound.{Bound}
use Rattle.gp_difference.specs.Bounds.{edges_of, tags_of, untagged, tagged, AreAmong, Explains}
use Rattle.gp_sat.specs.declared.assigned.Assigned.{Assigned}
use Rattle.gp_sat.specs.State.{SolverForm, assigned}
use Rattle.gp_sat.specs.Looking.{IsTrueLit}
use Rattle.gp_sat.specs.Standing.{IsFalse, Each}
use Rattle.gp_sat.specs.Sound.{IsOrdered, true_lit}
use Rattle.gp_search.specs.Bounds.{under, bounds_along}
use Rattle.gp_search.specs.Inside.{is_false, false_lit}
use Rattle.gp_search.proofs.Lists.{filtered, filtered_cases}
use Rattle.gp_clause.specs.LitLaws.{opposite_twice}

-- the literals of a trail are true
pub trail_true : (values : ℕ → Option Assigned) (trail : List Lit) (level : ℕ) → IsOrdered values trail level → (lit : Lit) → Contains trail lit → IsTrueLit values lit
trail_true values trail level ordered lit (place, within, is) =
    let off = ordered.off_trail place lit within in
    let on : get_or trail off.0.place lit ≡ true_lit (get_or trail place lit).variable off.0 = ordered.on_trail (get_or trail place lit).variable off.0 lit off.1 in
    let same : get_or trail off.0.place lit ≡ lit = ap (λ (p : ℕ). get_or trail p lit) off.2 ∙ is in
    let lit_is : lit ≡ true_lit (get_or trail place lit).variable off.0 = sym same ∙ on in
    (off.0, ap (λ (l : Lit). values l.variable) (sym is) ∙ off.1, sym (ap (λ (l : Lit). l.positive) lit_is))

-- the false literal of the variable of a true one is its negation
pub false_is_opposite : (s : SolverForm) (lit : Lit) → IsTrueLit (assigned s) lit → false_lit s lit.variable ≡ opposite lit
false_is_opposite s lit (a, is, same) = λ i. record { variable = lit.variable; positive = (ap is_false is ∙ ap not same) i }

-- the false literal of an assigned variable is false
pub false_is_false : (s : SolverForm) (variable : ℕ) (a : Assigned) → assigned s variable ≡ Some a → IsFalse (assigned s) (false_lit s variable)
false_is_false s variable a is = (a, is, sym (ap (λ (o : Option Assigned). not (is_false o)) is ∙ twice a.positive))
  where
    twice : (b : Bool) → not (not b) ≡ b
    twice true = refl
    twice false = refl

-- a bound is a fixed edge, or that of a true literal
pub data IsKnown (edges : List Edge) (kinds : List Kind) (values : ℕ → Option Assigned) : Bound → Type 0 where
  fixed : (edge : Edge) → Contains edges edge → IsKnown edges kinds values (untagged edge)
  said : (lit : Lit) (edge : Edge) → IsTrueLit values lit → bound_at kinds lit ≡ Some edge → IsKnown edges kinds values (tagged edge lit.variable)

-- the bound of a literal under its tag
pub under_some : (variable : ℕ) (o : Option Edge) (b : Bound) → under variable o ≡ Some b → (edge : Edge) × (o ≡ Some edge) × (tagged edge variable ≡ b)
under_some variable None b is = absurd (none-some b is)
under_some variable (Some edge) b is = (edge, refl, same_Some (tagged edge variable) b is)

-- the bounds of a graph are known
pub known : (edges : List Edge) (kinds : List Kind) (values : ℕ → Option Assigned) (lits : List Lit) → Each (IsTrueLit values) lits
    → (b : Bound) → Contains (map untagged edges ++ bounds_along kinds lits) b → IsKnown edges kinds values b
known edges kinds values lits all_true b is = elim (Contains-append_cases (map untagged edges) (bounds_along kinds lits) b is) [
  | inl front ↦
      let one = contains_from_map untagged edges b front in
      subst (λ (x : Bound). IsKnown edges kinds values x) one.2 (fixed one.0 one.1)
  | inr back ↦
      let one = filtered_cases (λ (lit : Lit). under lit.variable (bound_at kinds lit)) lits b back in
      let edge = under_some one.0.variable (bound_at kinds one.0) b one.2 in
      subst (λ (x : Bound). IsKnown edges kinds values x) edge.2 (said one.0 edge.0 (all_true one.0 one.1) edge.1)
]

-- the edge of a bound that has a tag
abbrev edge_if : Edge → Option ℕ → Option Edge
edge_if edge None = None
edge_if edge (Some tag) = Some edge

abbrev tagged_edges : List Bound → List Edge
tagged_edges bounds = filter_map (λ (b : Bound). edge_if b.edge b.tag) bounds

edge_told : (edge e : Edge) (tag : Option ℕ) → edge_if edge tag ≡ Some e → (t : ℕ) × (tag ≡ Some t) × (edge ≡ e)
edge_told edge e None is = absurd (none-some e is)
edge_told edge e (Some t) is = (t, refl, same_Some edge e is)

-- a walk goes on by one edge
walk_closed : (walk : List Bound) (from : ℕ) (new : Bound) → IsWalk from (edges_of walk) new.edge.a → IsWalk from (edges_of (walk ++ new ∷ [])) new.edge.b
walk_closed [] from new leads = (sym leads, refl)
walk_closed (b ∷ walk) from new leads = (leads.0, walk_closed walk b.edge.b new leads.1)

weight_closed : (walk : List Bound) (new : Bound) → weight (edges_of (walk ++ new ∷ [])) ≡ (weight (edges_of walk) +ℤ new.edge.c)
weight_closed [] new = omega (arith, ints)
weight_closed (b ∷ walk) new = let rest : weight (edges_of (walk ++ new ∷ [])) ≡ (weight (edges_of walk) +ℤ new.edge.c) = weight_closed walk new in omega (arith, ints, rest)

-- each edge of some bounds stands among edges
edges_among : (edges : List Edge) (bounds : List Bound) → ((b : Bound) → Contains bounds b → Contains edges b.edge) → IsAmong edges (edges_of bounds)
edges_among edges [] each = tt
edges_among edges (b ∷ bounds) each = (each b (here b bounds), edges_among edges bounds (λ other is. each other (there b bounds other is)))

among_each : (bounds walk : List Bound) → AreAmong bounds walk → (b : Bound) → Contains walk b → Contains bounds b
among_each bounds [] among b (k, within, is) = absurd (omega arith)
among_each bounds (first ∷ walk) among b is = elim (first_or_rest first walk b is) [
  | inl same ↦ subst (λ (x : Bound). Contains bounds x) same among.0
  | inr rest ↦ among_each bounds walk among.1 b rest
]

-- each bound of the cycle is known
cycle_known : (edges : List Edge) (kinds : List Kind) (values : ℕ → Option Assigned) (bounds walk : List Bound) (new : Bound) → ((b : Bound) → Contains bounds b → IsKnown edges kinds values b)
    → IsKnown edges kinds values new → AreAmong bounds walk → (b : Bound) → Contains (walk ++ new ∷ []) b → IsKnown edges kinds values b
cycle_known edges kinds values bounds walk new olds one among b is = elim (Contains-push_cases walk new b is) [
  | inl front ↦ olds b (among_each bounds walk among b front)
  | inr same ↦ subst (λ (x : Bound). IsKnown edges kinds values x) same one
]

-- what a known bound with a tag tells: its tag is the variable of a true literal with this bound
tag_told : (edges : List Edge) (kinds : List Kind) (values : ℕ → Option Assigned) (b : Bound) → IsKnown edges kinds values b
    → (tag : ℕ) → b.tag ≡ Some tag → (lit : Lit) × (lit.variable ≡ tag) × IsTrueLit values lit × (bound_at kinds lit ≡ Some b.edge)
tag_told edges kinds values b (fixed edge among) tag is = absurd (none-some tag is)
tag_told edges kinds values b (said lit edge holds bound) tag is = (lit, same_Some lit.variable tag is, holds, bound)

-- a literal that has a bound has a kind
pub kind_from_bound : (o : Option Kind) (positive : Bool) (edge : Edge) → bound_in o positive ≡ Some edge → (kind : Kind) × (o ≡ Some kind) × (bound_of kind positive ≡ Some edge)
kind_from_bound None positive edge is = absurd (none-some edge is)
kind_from_bound (Some kind) positive edge is = (kind, refl, is)

-- the edge of a known bound is fixed, or that of a tagged one
stands : (edges : List Edge) (kinds : List Kind) (values : ℕ → Option Assigned) (bounds : List Bound) (b : Bound) → Contains bounds b → IsKnown edges kinds values b
    → Contains (edges ++ tagged_edges bounds) b.edge
stands edges kinds values bounds b is (fixed edge among) = Contains-append_left edges (tagged_edges bounds) edge among
stands edges kinds values bounds b is (said lit edge holds bound) =
    Contains-append_right edges (tagged_edges bounds) edge (filtered (λ (x : Bound). edge_if x.edge x.tag) bounds (tagged edge lit.variable) edge is refl)

-- a true literal with a known variable among the tags is derived from the negation of the clause
literal_given : (s : SolverForm) (tags : List ℕ) (lit : Lit) → Contains tags lit.variable → IsTrueLit (assigned s) lit → Derived (negations (map (false_lit s) tags)) [] lit
literal_given s tags lit is holds =
    let conflict : List Lit = map (false_lit s) tags in
    let one : Contains conflict (opposite lit) = subst (λ (l : Lit). Contains conflict l) (false_is_opposite s lit holds) (contains_map (false_lit s) tags lit.variable is) in
    let two : Contains (negations conflict) (opposite (opposite lit)) = contains_map opposite conflict (opposite lit) one in
    given lit (subst (λ (l : Lit). Contains (negations conflict) l) (opposite_twice lit) two)

same_bound : (kind : Kind) (positive : Bool) (edge other : Edge) → bound_of kind positive ≡ Some edge → edge ≡ other → bound_of kind positive ≡ Some other
same_bound kind positive edge other is same = is ∙ ap (λ (e : Edge). Some e) same

-- the edges of the tagged bounds are those of literals that the negation of the clause gives
edge_derived : (edges : List Edge) (kinds : List Kind) (s : SolverForm) (bounds : List Bound) → ((b : Bound) → Contains bounds b → IsKnown edges kinds (assigned s) b)
    → (edge : Edge) → Contains (tagged_edges bounds) edge → IsDerivedBound kinds [] (negations (map (false_lit s) (tags_of bounds))) edge
edge_derived edges kinds s bounds each edge is =
    let b = filtered_cases (λ (x : Bound). edge_if x.edge x.tag) bounds edge is in
    let tag = edge_told b.0.edge edge b.0.tag b.2 in
    let told = tag_told edges kinds (assigned s) b.0 (each b.0 b.1) tag.0 tag.1 in
    let among : Contains (tags_of bounds) told.0.variable = subst (λ (t : ℕ). Contains (tags_of bounds) t) (sym told.1) (filtered (λ (x : Bound). x.tag) bounds b.0 tag.0 b.1 tag.1) in
    let kind = kind_from_bound (slice_get kinds told.0.variable) told.0.positive b.0.edge told.3 in
    (told.0, kind.0, literal_given s (tags_of bounds) told.0 among told.2, kind.1, same_bound kind.0 told.0.positive b.0.edge edge kind.2 tag.2)

-- what the tags of known bounds name
tags_told : (edges : List Edge) (kinds : List Kind) (s : SolverForm) (bounds : List Bound) → ((b : Bound) → Contains bounds b → IsKnown edges kinds (assigned s) b)
    → (tag : ℕ) → Contains (tags_of bounds) tag → (lit : Lit) × (lit.variable ≡ tag) × IsTrueLit (assigned s) lit × (lit.variable < length kinds)
tags_told edges kinds s bounds each tag is =
    let b = filtered_cases (λ (x : Bound). x.tag) bounds tag is in
    let told = tag_told edges kinds (assigned s) b.0 (each b.0 b.1) tag b.2 in
    let kind = kind_from_bound (slice_get kinds told.0.variable) told.0.positive b.0.edge told.3 in
    (told.0, told.1, told.2, slice_get_within kinds told.0.variable kind.0 kind.1)

-- the false literals of tags are false, and pass with no clause where the tags are those of a negative cycle
pub record IsClash (edges : List Edge) (kinds : List Kind) (s : SolverForm) (tags : List ℕ) : Type 0 where
  pub known : (tag : ℕ) → Contains tags tag → (a : Assigned) × (assigned s tag ≡ Some a)
  pub all_false : Each (IsFalse (assigned s)) (map (false_lit s) tags)
  pub passes : Passes edges kinds [] (map (false_lit s) tags)

clash_all : (edges : List Edge) (kinds : List Kind) (s : SolverForm) (walk : List Bound) (new : Bound)
    → ((b : Bound) → Contains (walk ++ new ∷ []) b → IsKnown edges kinds (assigned s) b) → IsWalk new.edge.b (edges_of walk) new.edge.a
    → (weight (edges_of walk) +ℤ new.edge.c) <ℤ pos 0 → IsClash edges kinds s (tags_of (walk ++ new ∷ []))
clash_all edges kinds s walk new each leads negative =
    let bounds : List Bound = walk ++ new ∷ [] in
    let sum : weight (edges_of bounds) ≡ (weight (edges_of walk) +ℤ new.edge.c) = weight_closed walk new in
    let below : weight (edges_of bounds) <ℤ pos 0 = subst (λ (z : ℤ). z <ℤ pos 0) (sym sum) negative in
    record {
      known = λ tag is. let told = tags_told edges kinds s bounds each tag is in (told.2.0, ap (assigned s) (sym told.1) ∙ told.2.1);
      all_false = λ lit is.
          let tag = contains_from_map (false_lit s) (tags_of bounds) lit is in
          let told = tags_told edges kinds s bounds each tag.0 tag.1 in
          subst (λ (l : Lit). IsFalse (assigned s) l) tag.2 (false_is_false s tag.0 told.2.0 (ap (assigned s) (sym told.1) ∙ told.2.1));
      passes = record {
        in_range = all_from_contains (λ (lit : Lit). lit.variable < length kinds) (map (false_lit s) (tags_of bounds)) (λ lit is.
            let tag = contains_from_map (false_lit s) (tags_of bounds) lit is in
            let told = tags_told edges kinds s bounds each tag.0 tag.1 in
            subst (λ (v : ℕ). v < length kinds) (told.1 ∙ ap (λ (l : Lit). l.variable) tag.2) told.3);
        refuted = inr (
          tagged_edges bounds,
          all_from_contains (IsDerivedBound kinds [] (negations (map (false_lit s) (tags_of bounds)))) (tagged_edges bounds) (edge_derived edges kinds s bounds each),
          (
            new.edge.b,
            edges_of bounds,
            record {
              closed = walk_closed walk new.edge.b new leads;
              among = edges_among (edges ++ tagged_edges bounds) bounds (λ b is. stands edges kinds (assigned s) bounds b is (each b is));
              negative = below;
            },
          ),
        );
      };
    }

-- the tags of a cycle through a new bound
pub clash : (edges : List Edge) (kinds : List Kind) (s : SolverForm) (bounds : List Bound) (new : Bound) (tags : List ℕ)
    → ((b : Bound) → Contains bounds b → IsKnown edges kinds (assigned s) b) → IsKnown edges kinds (assigned s) new → Explains bounds new tags
    → IsClash edges kinds s tags
clash edges kinds s bounds new tags olds one (walk, closes, are) =
    subst (λ (ts : List ℕ). IsClash edges kinds s ts) (sym are)
    (clash_all edges kinds s walk new (cycle_known edges kinds (assigned s) bounds walk new olds one closes.among) closes.leads closes.negative)
