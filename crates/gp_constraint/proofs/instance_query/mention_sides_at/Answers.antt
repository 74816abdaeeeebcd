use Rattle.std.proofs.Common.{◌≡◌, subst, sym, List, ℕ}
use Rattle.gp_constraint.specs.declared.point.Point.{Point}
use Rattle.gp_constraint.specs.Points.{number_in}
use Rattle.gp_constraint.proofs.Sided.{numbered_get}
use Rattle.gp_constraint.proofs.instance_query.mention_sides_at.Goals as goal

pub mention_side-requires-clause-other : goal.mention_side-requires-clause-other
mention_side-requires-clause-other c =
    let points : List Point = c.points-points.result.now in
    let i : ℕ = c.loop-p.p-index in
    subst (λ (p : Point). p.number ≡ number_in c.args.encoded.now p.id) (sym c.p-item.is)
    (numbered_get c.args.encoded.now points i c.p-item.result c.points-points.ensures c.loop-p-test.true)
