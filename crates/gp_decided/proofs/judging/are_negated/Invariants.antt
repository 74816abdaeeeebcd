use Rattle.std.proofs.Common.{take, All, Contains}
use Rattle.gp_clause.specs.Lit.{opposite}
use Rattle.gp_decided.proofs.judging.are_negated.Given as goal

abbrev pub invariant-loop-lit : goal.invariant-loop-lit
invariant-loop-lit l = All (λ lit. Contains l.assumed (opposite lit)) (take l.lit-index l.lits)
