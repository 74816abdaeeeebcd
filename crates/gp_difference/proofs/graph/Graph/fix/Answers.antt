use Rattle.std.proofs.Common.{subst, sym, ap, ◌∙◌, ◌≡◌, ℕ, ◌≤◌, List, [], ◌∷◌, ◌++◌, length, take, drop, map, arith}
use Rattle.std.proofs.lemmas.List.{take_all, map-append, length_push, length-drop}
use Rattle.gp_clause.specs.declared.edge.Edge.{Edge}
use Rattle.gp_difference.specs.declared.bound.Bound.{Bound}
use Rattle.gp_difference.specs.Places.{IsEdgeOf}
use Rattle.gp_clause.specs.Walk.{HasNegativeCycle}
use Rattle.gp_difference.specs.Bounds.{edges_of, untagged}
use Rattle.gp_difference.specs.Links.{BoundList}
use Rattle.gp_difference.specs.Graph.{GraphForm}
use Rattle.gp_difference.specs.Settle.{AreMoved}
use Rattle.gp_difference.proofs.GraphLemmas.{whole, closes_negative, sound_added}
use Rattle.gp_difference.proofs.graph.Graph.fix.Goals as goal

-- where no bound is kept all bounds are fixed edges
all_fixed : (fixed : ℕ) (bounds : List Bound) → drop fixed bounds ≡ [] → length bounds ≤ fixed
all_fixed fixed bounds none = omega (arith, length-drop fixed bounds, ap (λ (bs : List Bound). length bs) none)

-- one more fixed edge is a bound without a tag
untagged_more : (fixed : ℕ) (bounds : List Bound) (edge : Edge) → length bounds ≤ fixed →
    map untagged (edges_of (take fixed bounds)) ≡ take fixed bounds → map untagged (edges_of (bounds ++ untagged edge ∷ [])) ≡ bounds ++ untagged edge ∷ []
untagged_more fixed bounds edge fits h =
    let same : take fixed bounds ≡ bounds = take_all fixed bounds fits in
    ap (map untagged) (map-append (λ (b : Bound). b.edge) bounds (untagged edge ∷ []))
    ∙ map-append untagged (edges_of bounds) (edge ∷ [])
    ∙ ap (λ bs. bs ++ untagged edge ∷ []) (subst (λ bs. map untagged (edges_of bs) ≡ bs) same h)

pub returns-in-Some : goal.returns-in-Some
returns-in-Some c =
    let inside = c.self.inside in
    let bounds = inside.bounds.bounds in
    let same = ap (λ (b : BoundList). b.bounds) c.in_ok-reserve.ensures.ok ∙ sym (whole inside.fixed bounds c.self.invariant.untagged) in
    rw (← c.self.view_is)
    (subst (λ bs. HasNegativeCycle (edges_of bs ++ c.args.edge ∷ [])) same (closes_negative c.reserve.new.self.bounds c.args.edge _ c.in-Some.ensures.gives.2.closes))

pub invariant_of-self-in-None : goal.invariant_of-self-in-None
invariant_of-self-in-None c =
    let inside = c.self.inside in
    let sound = c.self.invariant in
    let bounds = inside.bounds.bounds in
    let bound = untagged c.args.edge in
    let reserved = ap (λ (b : BoundList). b.bounds) c.in_ok-reserve.ensures.ok in
    let more = ap (λ (b : BoundList). b.bounds) c.push.ensures ∙ ap (λ bs. bs ++ bound ∷ []) reserved in
    let longer = ap (λ (bs : List Bound). length bs) more ∙ length_push bounds bound in
    let is_edge : IsEdgeOf (length inside.placement.places) c.args.edge = subst (λ (g : GraphForm). IsEdgeOf g.points c.args.edge) (sym c.self.view_is) c.requires.within in
    let none : drop inside.fixed bounds ≡ [] = ap (λ (g : GraphForm). g.kept) c.self.view_is ∙ c.requires.none in
    let fits = all_fixed inside.fixed bounds none in
    let count = c.len-self-inside.ensures in
    let all : take c.len-self-inside.result c.push.new.self.bounds ≡ bounds ++ bound ∷ [] =
    take_all c.len-self-inside.result c.push.new.self.bounds (omega (arith, count)) ∙ more in
    sound_added inside _ bound sound more
    (ap (λ (b : BoundList). b.points) c.push.ensures ∙ ap (λ (b : BoundList). b.points) c.in_ok-reserve.ensures.ok) is_edge
    (subst (λ bs. AreMoved bs c.args.edge inside.placement.places inside.low c.settle.new.run.places c.settle.new.low) reserved c.in-None.ensures.gives)
    (omega (arith, count))
    (ap (λ bs. map untagged (edges_of bs)) all ∙ untagged_more inside.fixed bounds c.args.edge fits sound.untagged ∙ sym all)
    (omega (arith, count, sound.marks, fits))
    (omega (arith, ap (λ (b : BoundList). b.room) c.push.ensures, c.in_ok-reserve.ensures.room))
    c.in-None.ensures.size c.in-None.ensures.rest sound.tags
