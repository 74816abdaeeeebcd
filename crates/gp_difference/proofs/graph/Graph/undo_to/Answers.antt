use Rattle.std.proofs.Common.{subst, refl, sym, ap, ◌∙◌, ◌≡◌, ◌+◌, ◌-◌, ◌≤◌, length, take, drop, arith}
use Rattle.std.proofs.lemmas.List.{take-take, drop-take, length-drop}
use Rattle.gp_difference.specs.Bounds.{edges_of}
use Rattle.gp_difference.specs.Links.{BoundList}
use Rattle.gp_difference.specs.Graph.{GraphForm}
use Rattle.gp_difference.proofs.GraphLemmas.{same_graph}
use Rattle.gp_difference.proofs.graph.Graph.undo_to.Goals as goal

pub returns : goal.returns
returns c =
    let inside = c.self.inside in
    let bounds = inside.bounds.bounds in
    let mark = c.args.mark in
    let kept = length-drop inside.fixed bounds in
    let mark_in : mark ≤ length (drop inside.fixed bounds) = subst (λ (g : GraphForm). mark ≤ length g.kept) (sym c.self.view_is) c.requires in
    let count : c.len-len.result - (c.len-len.result - inside.fixed - mark) ≡ inside.fixed + mark = omega (arith, c.len-len.ensures, kept, mark_in, c.self.invariant.fixed) in
    let cut : c.truncate.new.self.bounds ≡ take (inside.fixed + mark) bounds =
    ap (λ (b : BoundList). b.bounds) c.truncate.ensures ∙ ap (λ n. take n bounds) count in
    rw (← c.self.view_is) (same_graph _ _ _ _ _ _ _ _ _ _ _ _ refl
    (ap (λ bs. edges_of (take inside.fixed bs)) cut ∙ ap edges_of (take-take inside.fixed (inside.fixed + mark) bounds (omega arith)))
    (ap (λ bs. drop inside.fixed bs) cut ∙ drop-take inside.fixed mark bounds)
    (omega (arith, c.len-len.ensures, kept)) refl refl)
