use Rattle.std.proofs.Common.{arith}
use Rattle.std.proofs.lemmas.Int.{ints}
use Rattle.gp_difference.proofs.keeping.keeps.Goals as goal

pub returns : goal.returns
returns c = (λ h. grind (arith, ints), λ h. grind (arith, ints))
