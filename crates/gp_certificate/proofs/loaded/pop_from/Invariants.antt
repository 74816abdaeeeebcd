use Rattle.std.proofs.Common.{ℕ, ◌<◌, vec_len, Contains}
use Rattle.gp_certificate.proofs.loaded.pop_from.Given as goal

abbrev pub invariant-loop-last : goal.invariant-loop-last
invariant-loop-last l = (number : ℕ) → number < l.count → Contains l.fn.row.items number → Contains l.row.items number

abbrev pub decreases-loop-last : goal.decreases-loop-last
decreases-loop-last l = vec_len l.row
