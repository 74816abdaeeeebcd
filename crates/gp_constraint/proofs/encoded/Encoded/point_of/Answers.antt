use Rattle.std.proofs.Common.{subst, sym, ◌∙◌}
use Rattle.gp_constraint.specs.Encoded.{IsSmall}
use Rattle.gp_constraint.proofs.Counted.{sizes_small}
use Rattle.gp_constraint.proofs.encoded.Encoded.point_of.Goals as goal

pub point_in-requires : goal.point_in-requires
point_in-requires c =
    subst IsSmall (sym (c.as_slice.ensures ∙ c.self.invariant.sizes_are)) (sizes_small c.self.inside.window c.self.invariant.encodable.points)
