use Rattle.std.proofs.Common.{◌≡◌, drop}
use Rattle.gp_instance.specs.Instance.{agree}
use Rattle.gp_instance.specs.Pairs.{all_pairs}
use Rattle.gp_instance.proofs.candidate.all_pairs_agree.Given as goal

abbrev pub invariant-loop-place : goal.invariant-loop-place
invariant-loop-place l = all_pairs agree (drop l.place l.bindings) ≡ all_pairs agree l.bindings
