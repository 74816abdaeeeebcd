-- Bounds of literals beside fixed edges, and negative cycles among more edges.
use Rattle.std.proofs.Common.{◌≡◌, zero, suc, Option, None, Some, List, [], ◌∷◌, ◌++◌, map, All, Contains, refl, ap, ◌∙◌, arith}
use Rattle.std.proofs.lemmas.List.{map-append, append-nil}
use Rattle.std.proofs.lemmas.List.Elements.{All-contains, All-cons, All-append, All-weaker, Contains-append_left, Contains-append_right, All-contains_itself, filter_map-append}
use Rattle.gp_clause.specs.declared.edge.Edge.{Edge}
use Rattle.gp_clause.specs.declared.kind.Kind.{Kind}
use Rattle.gp_clause.specs.declared.lit.Lit.{Lit}
use Rattle.gp_clause.specs.Kind.{bound_at}
use Rattle.gp_clause.specs.Walk.{IsAmong, HasNegativeCycle}
use Rattle.gp_difference.specs.declared.bound.Bound.{Bound}
use Rattle.gp_difference.specs.Bounds.{edges_of, untagged}
use Rattle.gp_certificate.specs.Places.{bounds_at}
use Rattle.gp_base.specs.ListLaws.{here, there}
use Rattle.gp_difference.specs.BoundsLaws.{edges_of-untagged}

among_more : (edges more : List Edge) → All (Contains more) edges → (walk : List Edge) → IsAmong edges walk → IsAmong more walk
among_more edges more all [] among = among
among_more edges more all (edge ∷ walk) among = (All-contains (Contains more) edges edge all among.0, among_more edges more all walk among.1)

-- more edges hold the negative cycles of fewer
pub cycle_more : (edges more : List Edge) → All (Contains more) edges → HasNegativeCycle edges → HasNegativeCycle more
cycle_more edges more all (point, cycle, is) = (point, cycle, record { closed = is.closed; among = among_more edges more all cycle is.among; negative = is.negative })

pub cycle_beside : (edges bounds more : List Edge) → All (Contains more) bounds → HasNegativeCycle (edges ++ bounds) → HasNegativeCycle (edges ++ more)
cycle_beside edges bounds more all = cycle_more (edges ++ bounds) (edges ++ more)
    (All-append (Contains (edges ++ more)) edges bounds
    (All-weaker (Contains edges) (Contains (edges ++ more)) (λ e is. Contains-append_left edges more e is) edges (All-contains_itself edges))
    (All-weaker (Contains more) (Contains (edges ++ more)) (λ e is. Contains-append_right edges more e is) bounds all))

-- all edges of a graph are the fixed ones and those of the kept bounds
pub whole_edges : (edges : List Edge) (kept : List Bound) → edges_of (map untagged edges ++ kept) ≡ edges ++ edges_of kept
whole_edges edges kept = map-append (λ (b : Bound). b.edge) (map untagged edges) kept ∙ ap (λ es. es ++ edges_of kept) (edges_of-untagged edges)

-- the bounds of one more literal
pub bounds_none : (kinds : List Kind) (lits : List Lit) (lit : Lit) → bound_at kinds lit ≡ None → bounds_at kinds (lits ++ lit ∷ []) ≡ bounds_at kinds lits
bounds_none kinds lits lit none = filter_map-append (bound_at kinds) lits (lit ∷ []) ∙ rw none (append-nil (bounds_at kinds lits))

pub bounds_some : (kinds : List Kind) (lits : List Lit) (lit : Lit) (edge : Edge) → bound_at kinds lit ≡ Some edge → bounds_at kinds (lits ++ lit ∷ []) ≡ bounds_at kinds lits ++ edge ∷ []
bounds_some kinds lits lit edge some = filter_map-append (bound_at kinds) lits (lit ∷ []) ∙ rw some refl

-- the bounds of the first literals are among those of all
pub bounds_first : (kinds : List Kind) (lits more : List Lit) → All (Contains (bounds_at kinds (lits ++ more))) (bounds_at kinds lits)
bounds_first kinds lits more =
    rw (filter_map-append (bound_at kinds) lits more)
    (All-weaker (Contains (bounds_at kinds lits)) (Contains (bounds_at kinds lits ++ bounds_at kinds more))
    (λ e is. Contains-append_left (bounds_at kinds lits) (bounds_at kinds more) e is) (bounds_at kinds lits) (All-contains_itself (bounds_at kinds lits)))

-- the bound of a literal is among those of all
pub bound_among : (kinds : List Kind) (lits : List Lit) (lit : Lit) (edge : Edge) → Contains lits lit → bound_at kinds lit ≡ Some edge → Contains (bounds_at kinds lits) edge
bound_among kinds [] lit edge (k, within, is) some = absurd (omega arith)
bound_among kinds (first ∷ lits) lit edge (zero, within, is) some =
    let at : bound_at kinds first ≡ Some edge = ap (bound_at kinds) is ∙ some in
    rw at (here edge (bounds_at kinds lits))
bound_among kinds (first ∷ lits) lit edge (suc k, within, is) some = at (bound_at kinds first) refl (bound_among kinds lits lit edge (k, omega arith, is) some)
  where
    at : (o : Option Edge) → bound_at kinds first ≡ o → Contains (bounds_at kinds lits) edge → Contains (bounds_at kinds (first ∷ lits)) edge
    at None none rest = rw none rest
    at (Some other) is rest = rw is (there other (bounds_at kinds lits) edge rest)

-- and each of them is the bound of a literal
pub bounds_from : (P : Edge → Type 0) (kinds : List Kind) (lits : List Lit) → ((lit : Lit) (edge : Edge) → Contains lits lit → bound_at kinds lit ≡ Some edge → P edge) → All P (bounds_at kinds lits)
bounds_from P kinds [] each = λ k d within. absurd (omega arith)
bounds_from P kinds (first ∷ lits) each = at (bound_at kinds first) refl (bounds_from P kinds lits (λ lit edge is some. each lit edge (there first lits lit is) some))
  where
    at : (o : Option Edge) → bound_at kinds first ≡ o → All P (bounds_at kinds lits) → All P (bounds_at kinds (first ∷ lits))
    at None none rest = rw none rest
    at (Some edge) is rest = rw is (All-cons P edge (bounds_at kinds lits) (each first edge (here first lits) is) rest)
