use Rattle.std.proofs.Common.{◌≡◌, ◌++◌, drop}
use Rattle.gp_reason.specs.Families.{sizes_among}
use Rattle.gp_reason.proofs.families.sizes_among.Given as goal

abbrev pub invariant-loop-family : goal.invariant-loop-family
invariant-loop-family l = l.sizes ++ sizes_among l.encoded (drop l.family-index l.among) ≡ sizes_among l.encoded l.among
