use Rattle.std.proofs.Common.{◌≡◌, ◌≢◌, ℕ, ◌+◌, ◌<◌, ◌⊎◌, inl, inr, suc, zero, List, [], ◌∷◌, ◌++◌, length, refl, sym, ap, ◌∙◌, arith, ℤ, ◌+ℤ◌}
use Rattle.std.specs.List.{All, Contains}
use Rattle.std.proofs.lemmas.Int.{ints}
use Rattle.std.proofs.lemmas.List.{length_push}
use Rattle.gp_clause.specs.declared.edge.Edge.{Edge}
use Rattle.gp_clause.specs.Edge.{Keeps}
use Rattle.gp_clause.specs.Walk.{IsWalk, weight, IsAmong}
use Rattle.gp_clause.specs.WalkLaws.{place_along}
use Rattle.gp_difference.specs.declared.bound.Bound.{Bound}
use Rattle.gp_difference.specs.Bounds.{start_at, edges_of, Closes, IsSimple}

-- the edges of a walk are among themselves
among_longer : (edge : Edge) (edges walk : List Edge) → IsAmong edges walk → IsAmong (edge ∷ edges) walk
among_longer edge edges [] among = tt
among_longer edge edges (first ∷ walk) among =
    ((suc among.0.0, omega (arith, among.0.1), among.0.2), among_longer edge edges walk among.1)

among_itself : (walk : List Edge) → IsAmong walk walk
among_itself [] = tt
among_itself (edge ∷ walk) = ((0, omega arith, refl), among_longer edge walk walk (among_itself walk))

-- no places keep a walk and an edge that closes a negative cycle with it
pub closed_refutes : (place : ℕ → ℤ) (bounds : List Bound) (new : Edge) (walk : List Bound) → Closes bounds new walk →
    All (Keeps place) (edges_of walk) → Keeps place new → ⊥
closed_refutes place bounds new walk closes keeps last =
    omega (arith, ints, place_along place (edges_of walk) keeps new.b (edges_of walk) new.a closes.leads (among_itself (edges_of walk)), closes.negative, last)

-- a walk goes on by an edge out of its end
pub IsWalk-push : (from : ℕ) (walk : List Edge) (to : ℕ) (edge : Edge) → IsWalk from walk to → edge.a ≡ to → IsWalk from (walk ++ edge ∷ []) edge.b
IsWalk-push from [] to edge leads e = (e ∙ sym leads, refl)
IsWalk-push from (first ∷ walk) to edge leads e = (leads.0, IsWalk-push first.b walk to edge leads.1 e)

pub weight-push : (walk : List Edge) (edge : Edge) → weight (walk ++ edge ∷ []) ≡ (weight walk +ℤ edge.c)
weight-push [] edge = omega (arith, ints)
weight-push (first ∷ walk) edge = let e = weight-push walk edge in omega (arith, ints, e)

pub IsAmong-push : (edges walk : List Edge) (edge : Edge) → IsAmong edges walk → Contains edges edge → IsAmong edges (walk ++ edge ∷ [])
IsAmong-push edges [] edge among c = (c, tt)
IsAmong-push edges (first ∷ walk) edge among c = (among.0, IsAmong-push edges walk edge among.1 c)

-- where an edge of a longer walk begins
pub start_at-push : (walk : List Edge) (edge : Edge) (k : ℕ) → k < length walk + 1 →
    ((k < length walk) × (start_at (walk ++ edge ∷ []) k ≡ start_at walk k)) ⊎ ((k ≡ length walk) × (start_at (walk ++ edge ∷ []) k ≡ edge.a))
start_at-push [] edge zero lt = inr (refl, refl)
start_at-push [] edge (suc k) lt = absurd (omega arith)
start_at-push (first ∷ walk) edge zero lt = inl (omega arith, refl)
start_at-push (first ∷ walk) edge (suc k) lt =
    elim (start_at-push walk edge k (omega arith)) [ inl h ↦ inl (omega (arith, h.0), h.1) | inr h ↦ inr (ap suc h.0, h.1) ]

-- a walk stays simple where the new edge begins at a point of its own
pub IsSimple-push : (walk : List Edge) (edge : Edge) → IsSimple walk →
    ((k : ℕ) → k < length walk → start_at walk k ≢ edge.a) → IsSimple (walk ++ edge ∷ [])
IsSimple-push walk edge simple own j k lt small same =
    let size : length (walk ++ edge ∷ []) ≡ length walk + 1 = length_push walk edge in
    let k_in : k < length walk + 1 = omega arith in
    let j_in : j < length walk + 1 = omega arith in
    elim (start_at-push walk edge k k_in) [
      | inl q ↦ elim (start_at-push walk edge j j_in) [
        | inl p ↦ simple j k lt q.0 (sym p.1 ∙ same ∙ q.1)
        | inr p ↦ omega (arith, p.0, q.0)
      ]
      | inr q ↦ elim (start_at-push walk edge j j_in) [
        | inl p ↦ own j p.0 (sym p.1 ∙ same ∙ q.1)
        | inr p ↦ omega (arith, p.0, q.0)
      ]
    ]
