-- Whether edges hold a negative cycle is decided: of edges that hold none the lightest walks are known, edge by edge.
use Rattle.std.specs.Prelude.{ℕ, ◌≡◌, ◌⊎◌, ℤ, pos, ◌+ℤ◌, ◌≤ℤ◌, Bool, true, false, List, [], ◌∷◌, ◌++◌, Contains}
use Rattle.std.specs.Int.Signed.{le_z}
use Rattle.std.proofs.Common.{inl, inr, refl, sym, subst, ap, ◌∙◌, arith}
use Rattle.std.proofs.lemmas.Bool.{cases_eq}
use Rattle.std.proofs.lemmas.Int.{ints}
use Rattle.gp_base.specs.ListLaws.{first_or_rest, here, nothing_in, there}
use Rattle.gp_clause.specs.declared.edge.Edge.{Edge}
use Rattle.gp_clause.specs.Walk.{HasNegativeCycle, IsAmong, IsWalk, weight}
use Rattle.gp_decided.specs.Decided.{Decided}

-- a walk over the edges from one point to another, and no other is lighter
record IsLightest (edges : List Edge) (from to : ℕ) (walk : List Edge) : Type 0 where
  leads : IsWalk from walk to
  among : IsAmong edges walk
  least : (other : List Edge) → IsWalk from other to → IsAmong edges other → weight walk ≤ℤ weight other

-- no walk over the edges leads from one point to another
abbrev NoWalk : List Edge → ℕ → ℕ → Type 0
NoWalk edges from to = (walk : List Edge) → IsWalk from walk to → IsAmong edges walk → ⊥

abbrev Lightest : List Edge → ℕ → ℕ → Type 0
Lightest edges from to = ((walk : List Edge) × IsLightest edges from to walk) ⊎ NoWalk edges from to

-- no cycle over the edges is negative, and from each point to each other the lightest walk is known
record AreLight (edges : List Edge) : Type 0 where
  none_negative : (point : ℕ) (cycle : List Edge) → IsWalk point cycle point → IsAmong edges cycle → pos 0 ≤ℤ weight cycle
  lightest : (from to : ℕ) → Lightest edges from to

order : (a b : ℤ) → (a ≤ℤ b) ⊎ (b ≤ℤ a)
order a b = at (le_z a b) refl
  where
    at : (less : Bool) → le_z a b ≡ less → (a ≤ℤ b) ⊎ (b ≤ℤ a)
    at true is = inl (omega (arith, ints, is))
    at false is = inr (omega (arith, ints, is))

-- two walks, one after the other
joined : (from middle to : ℕ) (walk more : List Edge) → IsWalk from walk middle → IsWalk middle more to → IsWalk from (walk ++ more) to
joined from middle to [] more leads rest = subst (λ n. IsWalk n more to) (sym leads) rest
joined from middle to (edge ∷ walk) more leads rest = (leads.0, joined edge.b middle to walk more leads.1 rest)

joined_among : (edges walk more : List Edge) → IsAmong edges walk → IsAmong edges more → IsAmong edges (walk ++ more)
joined_among edges [] more among rest = rest
joined_among edges (edge ∷ walk) more among rest = (among.0, joined_among edges walk more among.1 rest)

joined_weight : (walk more : List Edge) → weight (walk ++ more) ≡ weight walk +ℤ weight more
joined_weight [] more = omega (arith, ints)
joined_weight (edge ∷ walk) more = omega (arith, ints, joined_weight walk more)

-- a walk over some edges is one over more
pub among_more : (edges more walk : List Edge) → ((edge : Edge) → Contains edges edge → Contains more edge) → IsAmong edges walk → IsAmong more walk
among_more edges more [] all among = tt
among_more edges more (edge ∷ walk) all among = (all edge among.0, among_more edges more walk all among.1)

-- more edges hold the negative cycles of fewer
pub cycle_more : (edges more : List Edge) → ((edge : Edge) → Contains edges edge → Contains more edge) → HasNegativeCycle edges → HasNegativeCycle more
cycle_more edges more all (point, cycle, is) = (point, cycle, record { closed = is.closed; among = among_more edges more cycle all is.among; negative = is.negative })

-- without edges there are empty walks alone
nothing_light : AreLight []
nothing_light = record {
  none_negative = λ point cycle leads among. empty point cycle point leads among;
  lightest = λ from to. at from to (cases_eq from to);
}
  where
    empty : (from : ℕ) (walk : List Edge) (to : ℕ) → IsWalk from walk to → IsAmong [] walk → pos 0 ≤ℤ weight walk
    empty from [] to leads among = omega (arith, ints)
    empty from (edge ∷ walk) to leads among = absurd (nothing_in edge among.0)

    apart : (from to : ℕ) → (from ≡ to → ⊥) → NoWalk [] from to
    apart from to differ [] leads among = differ leads
    apart from to differ (edge ∷ walk) leads among = nothing_in edge among.0

    at : (from to : ℕ) → (from ≡ to) ⊎ (from ≡ to → ⊥) → Lightest [] from to
    at from to (inl same) = inl ([], record { leads = same; among = tt; least = λ other leads among. empty from other to leads among })
    at from to (inr differ) = inr (apart from to differ)

-- with one more edge, which closes no negative cycle, a walk can be cut down: without the edge, or through it once
data IsCut (edges : List Edge) (edge : Edge) (from to : ℕ) (most : ℤ) : Type 0 where
  without : (walk : List Edge) → IsWalk from walk to → IsAmong edges walk → weight walk ≤ℤ most → IsCut edges edge from to most
  through : (front rest : List Edge) → IsWalk from front edge.a → IsAmong edges front → IsWalk edge.b rest to → IsAmong edges rest
      → (weight front +ℤ (edge.c +ℤ weight rest)) ≤ℤ most → IsCut edges edge from to most

-- each way back from the end of an edge to its beginning is as heavy as it has to be
abbrev ClosesNone : List Edge → Edge → Type 0
ClosesNone edges edge = (walk : List Edge) → IsWalk edge.b walk edge.a → IsAmong edges walk → pos 0 ≤ℤ (edge.c +ℤ weight walk)

module _ (edges : List Edge) (edge : Edge) (back : ClosesNone edges edge) where
  cut : (from : ℕ) (walk : List Edge) (to : ℕ) → IsWalk from walk to → IsAmong (edge ∷ edges) walk → IsCut edges edge from to (weight walk)
  cut from [] to leads among = without [] leads tt (omega (arith, ints))
  cut from (first ∷ walk) to leads among = at (first_or_rest edge edges first among.0) (cut first.b walk to leads.1 among.1)
    where
      at : (edge ≡ first) ⊎ Contains edges first → IsCut edges edge first.b to (weight walk) → IsCut edges edge from to (first.c +ℤ weight walk)
      at (inr is) (without w l a less) = without (first ∷ w) (leads.0, l) (is, a) (omega (arith, ints, less))
      at (inr is) (through f r lf af lr ar less) = through (first ∷ f) r (leads.0, lf) (is, af) lr ar (omega (arith, ints, less))
      at (inl same) (without w l a less) =
          let c : edge.c ≡ first.c = ap (λ (e : Edge). e.c) same in
          through [] w (sym (ap (λ (e : Edge). e.a) same ∙ leads.0)) tt (subst (λ n. IsWalk n w to) (sym (ap (λ (e : Edge). e.b) same)) l) a (omega (arith, ints, less, c))
      at (inl same) (through f r lf af lr ar less) =
          let c : edge.c ≡ first.c = ap (λ (e : Edge). e.c) same in
          let heavy : pos 0 ≤ℤ (edge.c +ℤ weight f) = back f (subst (λ n. IsWalk n f edge.a) (sym (ap (λ (e : Edge). e.b) same)) lf) af in
          through [] r (sym (ap (λ (e : Edge). e.a) same ∙ leads.0)) tt lr ar (omega (arith, ints, less, c, heavy))

  more : (f : Edge) → Contains edges f → Contains (edge ∷ edges) f
  more f is = there edge edges f is

  closed_heavy : AreLight edges → (point : ℕ) (cycle : List Edge) → IsWalk point cycle point → IsAmong (edge ∷ edges) cycle → pos 0 ≤ℤ weight cycle
  closed_heavy light point cycle leads among = at (cut point cycle point leads among)
    where
      at : IsCut edges edge point point (weight cycle) → pos 0 ≤ℤ weight cycle
      at (without w l a less) = let heavy = light.none_negative point w l a in omega (arith, ints, less, heavy)
      at (through f r lf af lr ar less) =
          let heavy : pos 0 ≤ℤ (edge.c +ℤ weight (r ++ f)) = back (r ++ f) (joined edge.b point edge.a r f lr lf) (joined_among edges r f ar af) in
          omega (arith, ints, less, heavy, joined_weight r f)

  module _ (from to : ℕ) where
    -- where no walk leads through the edge
    by_direct : Lightest edges from to → ((f r : List Edge) → IsWalk from f edge.a → IsAmong edges f → IsWalk edge.b r to → IsAmong edges r → ⊥) → Lightest (edge ∷ edges) from to
    by_direct (inl (d, is_d)) never = inl (d, record { leads = is_d.leads; among = among_more edges (edge ∷ edges) d more is_d.among; least = λ other leads among. least other (cut from other to leads among) })
      where
        least : (other : List Edge) → IsCut edges edge from to (weight other) → weight d ≤ℤ weight other
        least other (without w l a most) = let first = is_d.least w l a in omega (arith, ints, first, most)
        least other (through f r lf af lr ar most) = absurd (never f r lf af lr ar)
    by_direct (inr none) never = inr (λ other leads among. no_walk other (cut from other to leads among))
      where
        no_walk : (other : List Edge) → IsCut edges edge from to (weight other) → ⊥
        no_walk other (without w l a most) = none w l a
        no_walk other (through f r lf af lr ar most) = never f r lf af lr ar

    -- the lightest walk without the edge, and those to its beginning and from its end
    lightest_more : Lightest edges from to → Lightest edges from edge.a → Lightest edges edge.b to → Lightest (edge ∷ edges) from to
    lightest_more direct (inl (f, is_f)) (inl (r, is_r)) = at direct
      where
        way : List Edge
        way = f ++ edge ∷ r

        way_leads : IsWalk from (f ++ edge ∷ r) to
        way_leads = joined from edge.a to f (edge ∷ r) is_f.leads (refl, is_r.leads)

        way_among : IsAmong (edge ∷ edges) (f ++ edge ∷ r)
        way_among = joined_among (edge ∷ edges) f (edge ∷ r) (among_more edges (edge ∷ edges) f more is_f.among) (here edge edges, among_more edges (edge ∷ edges) r more is_r.among)

        way_weight : weight (f ++ edge ∷ r) ≡ weight f +ℤ (edge.c +ℤ weight r)
        way_weight = joined_weight f (edge ∷ r)

        at : Lightest edges from to → Lightest (edge ∷ edges) from to
        at (inl (d, is_d)) = elim (order (weight d) (weight (f ++ edge ∷ r))) [
          | inl less ↦ inl (d, record { leads = is_d.leads; among = among_more edges (edge ∷ edges) d more is_d.among; least = λ other leads among. least_direct less other (cut from other to leads among) })
          | inr less ↦ inl (f ++ edge ∷ r, record { leads = way_leads; among = way_among; least = λ other leads among. least_way less other (cut from other to leads among) })
        ]
          where
            least_direct : weight d ≤ℤ weight (f ++ edge ∷ r) → (other : List Edge) → IsCut edges edge from to (weight other) → weight d ≤ℤ weight other
            least_direct less other (without w l a most) = let first = is_d.least w l a in omega (arith, ints, first, most)
            least_direct less other (through f' r' lf af lr ar most) =
                let first = is_f.least f' lf af in let second = is_r.least r' lr ar in omega (arith, ints, less, way_weight, first, second, most)

            least_way : weight (f ++ edge ∷ r) ≤ℤ weight d → (other : List Edge) → IsCut edges edge from to (weight other) → weight (f ++ edge ∷ r) ≤ℤ weight other
            least_way less other (without w l a most) = let first = is_d.least w l a in omega (arith, ints, less, first, most)
            least_way less other (through f' r' lf af lr ar most) =
                let first = is_f.least f' lf af in let second = is_r.least r' lr ar in omega (arith, ints, way_weight, first, second, most)
        at (inr none) = inl (f ++ edge ∷ r, record { leads = way_leads; among = way_among; least = λ other leads among. least_way other (cut from other to leads among) })
          where
            least_way : (other : List Edge) → IsCut edges edge from to (weight other) → weight (f ++ edge ∷ r) ≤ℤ weight other
            least_way other (without w l a most) = absurd (none w l a)
            least_way other (through f' r' lf af lr ar most) =
                let first = is_f.least f' lf af in let second = is_r.least r' lr ar in omega (arith, ints, way_weight, first, second, most)
    lightest_more direct (inl front) (inr none) = by_direct direct (λ f r lf af lr ar. none r lr ar)
    lightest_more direct (inr none) rest = by_direct direct (λ f r lf af lr ar. none f lf af)

-- either some walk over the edges is a negative cycle, or the lightest walks are known
light_or_cycle : (edges : List Edge) → HasNegativeCycle edges ⊎ AreLight edges
light_or_cycle [] = inr nothing_light
light_or_cycle (edge ∷ edges) = at (light_or_cycle edges)
  where
    all : (f : Edge) → Contains edges f → Contains (edge ∷ edges) f
    all f is = there edge edges f is

    light : (light : AreLight edges) → ClosesNone edges edge → AreLight (edge ∷ edges)
    light known back = record {
      none_negative = closed_heavy edges edge back known;
      lightest = λ from to. lightest_more edges edge back from to (known.lightest from to) (known.lightest from edge.a) (known.lightest edge.b to);
    }

    by_back : AreLight edges → Lightest edges edge.b edge.a → HasNegativeCycle (edge ∷ edges) ⊎ AreLight (edge ∷ edges)
    by_back known (inr none) = inr (light known (λ walk leads among. absurd (none walk leads among)))
    by_back known (inl (back, is)) = by_weight (le_z (pos 0) (edge.c +ℤ weight back)) refl
      where
        by_weight : (heavy : Bool) → le_z (pos 0) (edge.c +ℤ weight back) ≡ heavy → HasNegativeCycle (edge ∷ edges) ⊎ AreLight (edge ∷ edges)
        by_weight true heavy = inr (light known (λ walk leads among. let least = is.least walk leads among in omega (arith, ints, heavy, least)))
        by_weight false heavy = inl (
          edge.a,
          edge ∷ back,
          record {
            closed = (refl, is.leads);
            among = (here edge edges, among_more edges (edge ∷ edges) back all is.among);
            negative = omega (arith, ints, heavy);
          },
        )

    at : HasNegativeCycle edges ⊎ AreLight edges → HasNegativeCycle (edge ∷ edges) ⊎ AreLight (edge ∷ edges)
    at (inl cycle) = inl (cycle_more edges (edge ∷ edges) all cycle)
    at (inr known) = by_back known (known.lightest edge.b edge.a)

-- so it is decided
pub cycle_decided : (edges : List Edge) → Decided (HasNegativeCycle edges)
cycle_decided edges = at (light_or_cycle edges)
  where
    at : HasNegativeCycle edges ⊎ AreLight edges → Decided (HasNegativeCycle edges)
    at (inl cycle) = inl cycle
    at (inr light) = inr (λ (point, cycle, is). let heavy = light.none_negative point cycle is.closed is.among in omega (arith, ints, heavy, is.negative))
