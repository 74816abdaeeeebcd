-- The loop that keeps the bounds of literals in a graph.
use Rattle.std.proofs.Common.{◌≡◌, ℕ, ◌+◌, ◌-◌, ◌<◌, ◌≤◌, Option, None, Some, List, [], ◌∷◌, ◌++◌, length, take, drop, get_or, All, Contains, refl, ap, sym, ◌∙◌, subst, arith}
use Rattle.std.proofs.lemmas.List.{map-append, append-nil, take_more, take_all, append_assoc, length_push, take-append-drop, get_or_default}
use Rattle.std.proofs.lemmas.List.Elements.{All-append, All-weaker, All-contains_itself, Contains-append_left, Contains-append_right}
use Rattle.std.proofs.lemmas.Option.{slice_get-get_or}
use Rattle.gp_clause.specs.Clause.{NamesBelow}
use Rattle.gp_clause.specs.Kind.{bound_of, bound_at, bound_in}
use Rattle.gp_clause.specs.declared.edge.Edge.{Edge}
use Rattle.gp_clause.specs.declared.kind.Kind.{Kind}
use Rattle.gp_clause.specs.declared.lit.Lit.{Lit}
use Rattle.gp_clause.specs.Walk.{HasNegativeCycle}
use Rattle.gp_difference.specs.declared.bound.Bound.{Bound}
use Rattle.gp_difference.specs.Bounds.{edges_of, tagged}
use Rattle.gp_difference.specs.Graph.{GraphForm, IsKept, IsRefused, all_edges}
use Rattle.gp_certificate.specs.Places.{bounds_at, KeepsMore, KeepsAll}
use Rattle.gp_certificate.proofs.BoundsAt.{cycle_beside, whole_edges, bounds_none, bounds_some, bounds_first}

-- the graph holds, beside the bounds that it had, those of the first literals, and no negative cycle
pub record IsBounded (kinds : List Kind) (lits : List Lit) (i : ℕ) (old now : GraphForm) : Type 0 where
  pub more : KeepsMore old now
  pub few : length now.kept ≤ length old.kept + i
  pub bounds : edges_of now.kept ≡ edges_of old.kept ++ bounds_at kinds (take i lits)
  pub acyclic : HasNegativeCycle (now.edges ++ edges_of now.kept) → ⊥

pub bounded_none : (kinds : List Kind) (lits : List Lit) (graph : GraphForm) → (HasNegativeCycle (graph.edges ++ edges_of graph.kept) → ⊥) → IsBounded kinds lits 0 graph graph
bounded_none kinds lits graph acyclic = record {
  more = record { points = refl; edges = refl; room = refl; kept = ([], sym (append-nil graph.kept)) };
  few = omega arith;
  bounds = sym (append-nil (edges_of graph.kept));
  acyclic = acyclic;
}

one_more : (lits : List Lit) (i : ℕ) (lit : Lit) → i < length lits → lit ≡ get_or lits i lit → take (i + 1) lits ≡ take i lits ++ lit ∷ []
one_more lits i lit within is = take_more lits i lit within ∙ ap (λ l. take i lits ++ l ∷ []) (sym is)

pub bounded_skip : (kinds : List Kind) (lits : List Lit) (i : ℕ) (lit : Lit) (old now : GraphForm) → i < length lits → lit ≡ get_or lits i lit → bound_at kinds lit ≡ None
    → IsBounded kinds lits i old now → IsBounded kinds lits (i + 1) old now
bounded_skip kinds lits i lit old now within is none bounded = record {
  more = bounded.more;
  few = omega (arith, bounded.few);
  bounds = bounded.bounds ∙ ap (λ es. edges_of old.kept ++ es) (sym (ap (bounds_at kinds) (one_more lits i lit within is) ∙ bounds_none kinds (take i lits) lit none));
  acyclic = bounded.acyclic;
}

pub bounded_kept : (kinds : List Kind) (lits : List Lit) (i : ℕ) (lit : Lit) (edge : Edge) (old now new : GraphForm) → i < length lits → lit ≡ get_or lits i lit → bound_at kinds lit ≡ Some edge
    → length lits ≤ old.room → IsKept now (tagged edge 0) new → IsBounded kinds lits i old now → IsBounded kinds lits (i + 1) old new
bounded_kept kinds lits i lit edge old now new within is some roomy kept bounded =
    let more : new.kept ≡ now.kept ++ tagged edge 0 ∷ [] = ap (λ (g : GraphForm). g.kept) kept.added in
    let longer : length new.kept ≡ length now.kept + 1 = ap (λ (bs : List Bound). length bs) more ∙ length_push now.kept (tagged edge 0) in
    let less : new.room ≡ now.room - 1 = ap (λ (g : GraphForm). g.room) kept.added in
    let P : List Edge → Type 0 = λ es. HasNegativeCycle es → ⊥ in
    record {
      more = record {
        points = ap (λ (g : GraphForm). g.points) kept.added ∙ bounded.more.points;
        edges = ap (λ (g : GraphForm). g.edges) kept.added ∙ bounded.more.edges;
        room = omega (arith, longer, less, bounded.more.room, bounded.few, within, roomy);
        kept = (bounded.more.kept.0 ++ tagged edge 0 ∷ [], more ∙ ap (λ (bs : List Bound). bs ++ tagged edge 0 ∷ []) bounded.more.kept.1 ∙ append_assoc old.kept bounded.more.kept.0 (tagged edge 0 ∷ []));
      };
      few = omega (arith, longer, bounded.few);
      bounds = ap edges_of more ∙ map-append (λ (b : Bound). b.edge) now.kept (tagged edge 0 ∷ []) ∙ ap (λ es. es ++ edge ∷ []) bounded.bounds
          ∙ append_assoc (edges_of old.kept) (bounds_at kinds (take i lits)) (edge ∷ [])
          ∙ ap (λ es. edges_of old.kept ++ es) (sym (ap (bounds_at kinds) (one_more lits i lit within is) ∙ bounds_some kinds (take i lits) lit edge some));
      acyclic = subst P (whole_edges new.edges new.kept) kept.feasible.no_cycle;
    }

pub bounded_cycle : (kinds : List Kind) (lits : List Lit) (i : ℕ) (lit : Lit) (edge : Edge) (old now new : GraphForm) → i < length lits → lit ≡ get_or lits i lit → bound_at kinds lit ≡ Some edge
    → IsRefused now (tagged edge 0) new → IsBounded kinds lits i old now → HasNegativeCycle (old.edges ++ (edges_of old.kept ++ bounds_at kinds lits))
bounded_cycle kinds lits i lit edge old now new within is some refused bounded =
    let held = edges_of old.kept in
    let first : bounds_at kinds (take (i + 1) lits) ≡ bounds_at kinds (take i lits) ++ edge ∷ [] = ap (bounds_at kinds) (one_more lits i lit within is) ∙ bounds_some kinds (take i lits) lit edge some in
    let all : all_edges now ++ edge ∷ [] ≡ old.edges ++ (held ++ bounds_at kinds (take (i + 1) lits)) =
    ap (λ es. es ++ edge ∷ []) (whole_edges now.edges now.kept) ∙ append_assoc now.edges (edges_of now.kept) (edge ∷ [])
    ∙ ap (λ es. es ++ (edges_of now.kept ++ edge ∷ [])) bounded.more.edges ∙ ap (λ es. old.edges ++ (es ++ edge ∷ [])) bounded.bounds
    ∙ ap (λ es. old.edges ++ es) (append_assoc held (bounds_at kinds (take i lits)) (edge ∷ [])) ∙ ap (λ es. old.edges ++ (held ++ es)) (sym first) in
    let part : HasNegativeCycle (old.edges ++ (held ++ bounds_at kinds (take (i + 1) lits))) = subst HasNegativeCycle all refused.negative in
    let among : All (Contains (bounds_at kinds lits)) (bounds_at kinds (take (i + 1) lits)) =
    (let P : List Lit → Type 0 = λ ls. All (Contains (bounds_at kinds ls)) (bounds_at kinds (take (i + 1) lits)) in
    subst P (take-append-drop (i + 1) lits) (bounds_first kinds (take (i + 1) lits) (drop (i + 1) lits))) in
    let whole : All (Contains (held ++ bounds_at kinds lits)) (held ++ bounds_at kinds (take (i + 1) lits)) =
    All-append (Contains (held ++ bounds_at kinds lits)) held (bounds_at kinds (take (i + 1) lits))
    (All-weaker (Contains held) (Contains (held ++ bounds_at kinds lits)) (λ e has. Contains-append_left held (bounds_at kinds lits) e has) held (All-contains_itself held))
    (All-weaker (Contains (bounds_at kinds lits)) (Contains (held ++ bounds_at kinds lits)) (λ e has. Contains-append_right held (bounds_at kinds lits) e has) (bounds_at kinds (take (i + 1) lits)) among) in
    cycle_beside old.edges (held ++ bounds_at kinds (take (i + 1) lits)) (held ++ bounds_at kinds lits) whole part

bound_read : (kinds : List Kind) (lit : Lit) (dk : Kind) (o : Option Edge) → lit.variable < length kinds → o ≡ bound_of (get_or kinds lit.variable dk) lit.positive → bound_at kinds lit ≡ o
bound_read kinds lit dk o within is = ap (λ k. bound_in k lit.positive) (slice_get-get_or kinds lit.variable dk within) ∙ sym is

pub skip_at : (kinds : List Kind) (lits : List Lit) (i : ℕ) (d : Lit) (dk : Kind) (o : Option Edge) (old now : GraphForm) → i < length lits → NamesBelow (length kinds) lits
    → o ≡ bound_of (get_or kinds (get_or lits i d).variable dk) (get_or lits i d).positive → o ≡ None → IsBounded kinds lits i old now → IsBounded kinds lits (i + 1) old now
skip_at kinds lits i d dk o old now within names is none bounded =
    bounded_skip kinds lits i (get_or lits i d) old now within (get_or_default lits i d (get_or lits i d) within) (bound_read kinds (get_or lits i d) dk o (names i d within) is ∙ none) bounded

pub kept_at : (kinds : List Kind) (lits : List Lit) (i : ℕ) (d : Lit) (dk : Kind) (o : Option Edge) (edge : Edge) (old now new : GraphForm) → i < length lits → NamesBelow (length kinds) lits
    → o ≡ bound_of (get_or kinds (get_or lits i d).variable dk) (get_or lits i d).positive → o ≡ Some edge → length lits ≤ old.room → IsKept now (tagged edge 0) new
    → IsBounded kinds lits i old now → IsBounded kinds lits (i + 1) old new
kept_at kinds lits i d dk o edge old now new within names is some roomy kept bounded =
    bounded_kept kinds lits i (get_or lits i d) edge old now new within (get_or_default lits i d (get_or lits i d) within) (bound_read kinds (get_or lits i d) dk o (names i d within) is ∙ some) roomy kept bounded

pub cycle_at : (kinds : List Kind) (lits : List Lit) (i : ℕ) (d : Lit) (dk : Kind) (o : Option Edge) (edge : Edge) (old now new : GraphForm) → i < length lits → NamesBelow (length kinds) lits
    → o ≡ bound_of (get_or kinds (get_or lits i d).variable dk) (get_or lits i d).positive → o ≡ Some edge → IsRefused now (tagged edge 0) new
    → IsBounded kinds lits i old now → HasNegativeCycle (old.edges ++ (edges_of old.kept ++ bounds_at kinds lits))
cycle_at kinds lits i d dk o edge old now new within names is some refused bounded =
    bounded_cycle kinds lits i (get_or lits i d) edge old now new within (get_or_default lits i d (get_or lits i d) within) (bound_read kinds (get_or lits i d) dk o (names i d within) is ∙ some) refused bounded

-- all bounds are kept
pub bounded_all : (kinds : List Kind) (lits : List Lit) (i : ℕ) (old now : GraphForm) → length lits ≤ i → IsBounded kinds lits i old now → KeepsAll old.edges kinds lits old now
bounded_all kinds lits i old now end bounded = record {
  bounds = bounded.bounds ∙ ap (λ ls. edges_of old.kept ++ bounds_at kinds ls) (take_all i lits end);
  acyclic = subst (λ es. HasNegativeCycle (es ++ edges_of now.kept) → ⊥) bounded.more.edges bounded.acyclic;
}
