use Rattle.gp_text.proofs.Cuts.{NotBefore}
use Rattle.gp_text.proofs.parts.cut.Given as goal

abbrev pub invariant-loop-i : goal.invariant-loop-i
invariant-loop-i l = NotBefore l.bytes l.at l.i
