use Rattle.std.proofs.Common.{◌≡◌, drop}
use Rattle.gp_reason.specs.Families.{family_among}
use Rattle.gp_reason.proofs.families.family_among.Given as goal

abbrev pub invariant-loop-family : goal.invariant-loop-family
invariant-loop-family l = family_among (drop l.family-index l.sizes) l.rest ≡ family_among l.sizes l.number
