use Rattle.std.proofs.Common.{◌≡◌, vec_len}
use Rattle.gp_witness.specs.Witness.{up_to_last}
use Rattle.gp_witness.proofs.cutting.up_to_last.Given as goal

abbrev pub invariant-loop-last : goal.invariant-loop-last
invariant-loop-last l = up_to_last l.events l.ids.items ≡ up_to_last l.events l.initial.ids.items

abbrev pub decreases-loop-last : goal.decreases-loop-last
decreases-loop-last l = vec_len l.ids
