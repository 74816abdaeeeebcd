use Rattle.std.proofs.Common.{subst, refl, sym, ap, ◌∙◌, ◌≡◌, ℕ, ◌≤◌, ◌<◌, List, ℤ, [], ◌∷◌, ◌++◌, length, take, drop, map, arith}
use Rattle.std.proofs.lemmas.List.{take-append-le, drop-append-le, length_push}
use Rattle.gp_clause.specs.declared.edge.Edge.{Edge}
use Rattle.gp_difference.specs.declared.bound.Bound.{Bound}
use Rattle.gp_difference.specs.Places.{IsEdgeOf}
use Rattle.gp_clause.specs.Walk.{HasNegativeCycle}
use Rattle.gp_difference.specs.Bounds.{edges_of, tagged, untagged, tags_of, Closes, Explains}
use Rattle.gp_difference.specs.Links.{BoundList}
use Rattle.gp_difference.specs.Lower.{walk_of}
use Rattle.gp_difference.specs.Graph.{GraphForm}
use Rattle.gp_difference.proofs.TagLemmas.{tags_of-push}
use Rattle.gp_difference.proofs.GraphLemmas.{whole, moves, closes_negative, sound_feasible, sound_added, same_graph}
use Rattle.gp_difference.proofs.graph.Graph.assert.Goals as goal

-- the tags of a walk and the new bound's tag
explains : (bounds : List Bound) (edge : Edge) (tag : ℕ) (walk : List Bound) (found all : List ℕ) → Closes bounds edge walk →
    found ≡ tags_of walk → all ≡ found ++ tag ∷ [] → Explains bounds (tagged edge tag) all
explains bounds edge tag walk found all closes is more =
    (walk, closes, more ∙ ap (λ ts. ts ++ tag ∷ []) is ∙ sym (tags_of-push walk (tagged edge tag)))

-- a bound that comes later leaves the fixed edges and goes to the end of the kept ones
fixed_stays : (fixed : ℕ) (bounds : List Bound) (bound : Bound) (all : List Bound) → fixed ≤ length bounds → all ≡ bounds ++ bound ∷ [] →
    take fixed all ≡ take fixed bounds
fixed_stays fixed bounds bound all fits e = ap (λ bs. take fixed bs) e ∙ take-append-le fixed bounds (bound ∷ []) fits

kept_grows : (fixed : ℕ) (bounds : List Bound) (bound : Bound) (all : List Bound) → fixed ≤ length bounds → all ≡ bounds ++ bound ∷ [] →
    drop fixed all ≡ drop fixed bounds ++ bound ∷ []
kept_grows fixed bounds bound all fits e = ap (λ bs. drop fixed bs) e ∙ drop-append-le fixed bounds (bound ∷ []) fits

pub returns-in-Some : goal.returns-in-Some
returns-in-Some c =
    let inside = c.self.inside in
    let bounds = inside.bounds.bounds in
    let gives = c.in-Some.ensures.gives in
    let places = gives.0 in
    let same = sym (whole inside.fixed bounds c.self.invariant.untagged) in
    let found = c.put_tags.ensures.tags ∙ ap (λ (ws : List ℕ). tags_of (walk_of bounds ws)) c.walk.ensures in
    rw (← c.self.view_is) (record {
      unchanged = same_graph _ _ _ _ _ _ _ _ _ _ _ _ (ap (λ (ps : List ℤ). length ps) places) refl refl refl places refl;
      negative = subst (λ bs. HasNegativeCycle (edges_of bs ++ c.args.edge ∷ [])) same (closes_negative bounds c.args.edge _ gives.2.closes);
      explained = subst (λ bs. Explains bs (tagged c.args.edge c.args.tag) c.push_reserved.new.self.items) same
          (explains bounds c.args.edge c.args.tag _ c.put_tags.new.tags.items c.push_reserved.new.self.items gives.2.closes found c.push_reserved.ensures.items);
    })

pub invariant_of-self-2 : goal.invariant_of-self-2
invariant_of-self-2 c =
    let inside = c.self.inside in
    let sound = c.self.invariant in
    let bounds = inside.bounds.bounds in
    let bound = tagged c.args.edge c.args.tag in
    let more = ap (λ (b : BoundList). b.bounds) c.push.ensures in
    let longer = ap (λ (bs : List Bound). length bs) more ∙ length_push bounds bound in
    let room = ap (λ (b : BoundList). b.room) c.push.ensures in
    let is_edge : IsEdgeOf (length inside.placement.places) c.args.edge = subst (λ (g : GraphForm). IsEdgeOf g.points c.args.edge) (sym c.self.view_is) c.requires.within in
    let some : 0 < inside.room = subst (λ (g : GraphForm). 0 < g.room) (sym c.self.view_is) c.requires.room in
    let stays = fixed_stays inside.fixed bounds bound c.push.new.self.bounds sound.fixed more in
    sound_added inside _ bound sound more (ap (λ (b : BoundList). b.points) c.push.ensures) is_edge c.in_default.ensures.gives
    (omega (arith, longer, sound.fixed))
    (ap (λ bs. map untagged (edges_of bs)) stays ∙ sound.untagged ∙ sym stays)
    (omega (arith, longer, some, sound.fixed, sound.marks))
    (omega (arith, room, sound.room))
    c.in_default.ensures.size c.in_default.ensures.rest sound.tags

pub returns : goal.returns
returns c =
    let inside = c.self.inside in
    let sound = c.self.invariant in
    let bounds = inside.bounds.bounds in
    let bound = tagged c.args.edge c.args.tag in
    let more = ap (λ (b : BoundList). b.bounds) c.push.ensures in
    let is_edge : IsEdgeOf (length inside.placement.places) c.args.edge = subst (λ (g : GraphForm). IsEdgeOf g.points c.args.edge) (sym c.self.view_is) c.requires.within in
    rw (← c.self.view_is) (record {
      added = same_graph _ _ _ _ _ _ _ _ _ _ _ _ c.in_default.ensures.size
          (ap edges_of (fixed_stays inside.fixed bounds bound c.push.new.self.bounds sound.fixed more))
          (kept_grows inside.fixed bounds bound c.push.new.self.bounds sound.fixed more) refl refl refl;
      feasible = sound_feasible _ (invariant_of-self-2 c);
      moves = moves inside c.args.edge _ _ sound is_edge c.in_default.ensures.size c.in_default.ensures.gives;
    })
