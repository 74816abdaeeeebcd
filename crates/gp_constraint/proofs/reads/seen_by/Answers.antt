use Rattle.std.proofs.Common.{ap, subst, ◌∙◌, ◌≡◌, List}
use Rattle.std.specs.Prelude.{flat_map}
use Rattle.gp_constraint.specs.declared.point.Point.{Point}
use Rattle.gp_constraint.specs.declared.symbol.SymbolicLit.{SymbolicLit}
use Rattle.gp_constraint.specs.Limited.{IsAdded}
use Rattle.gp_constraint.specs.Listed.{choices_in, rivals_in, seen}
use Rattle.gp_constraint.specs.Reads.{seen_from}
use Rattle.gp_constraint.proofs.Tabled.{seen_tabled}
use Rattle.gp_constraint.proofs.reads.seen_by.Goals as goal

pub returns : goal.returns
returns c =
    let points : List Point = c.args.points.now in
    let r : Point = c.args.r.now in
    let writes : List Point = c.writes_for-writes.result.now in
    let due : flat_map (seen c.as_slice-2.result.now r) c.as_slice.result.now ≡ flat_map (seen_from points r) points =
    ap (λ (rivals : List Point). flat_map (seen rivals r) c.as_slice.result.now) (c.as_slice-2.ensures ∙ c.in_ok-rivals.ensures)
    ∙ ap (λ (choices : List Point). flat_map (seen (rivals_in writes r) r) choices) (c.as_slice.ensures ∙ c.in_ok-choices.ensures)
    ∙ ap (λ (ws : List Point). flat_map (seen (rivals_in ws r) r) (choices_in ws r)) c.writes_for-writes.ensures
    ∙ seen_tabled points r in
    subst (λ (d : List (List SymbolicLit)). IsAdded c.seen_each.result c.args.clauses.now c.seen_each.new.clauses d) due c.seen_each.ensures
