use Rattle.std.proofs.Common.{subst, sym}
use Rattle.gp_constraint.specs.Encoded.{IsSmall}
use Rattle.gp_constraint.proofs.Counted.{sizes_small}
use Rattle.gp_constraint.proofs.encoded.Encoded.into_parts.Goals as goal

pub returns-clause-small : goal.returns-clause-small
returns-clause-small c =
    subst IsSmall (sym c.self.invariant.sizes_are) (sizes_small c.self.inside.window c.self.invariant.encodable.points)
