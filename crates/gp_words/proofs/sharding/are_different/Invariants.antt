use Rattle.std.proofs.Common.{◌≡◌, drop}
use Rattle.gp_words.specs.Sharding.{are_different}
use Rattle.gp_words.specs.Value.{lent_texts}
use Rattle.gp_words.proofs.sharding.are_different.Given as goal

-- the names that are left are different where all are
abbrev pub invariant-loop-i : goal.invariant-loop-i
invariant-loop-i l = are_different (lent_texts (drop l.i l.names)) ≡ are_different (lent_texts l.names)
