use Rattle.std.proofs.Common.{◌≡◌, drop}
use Rattle.gp_instance.specs.Pairs.{all_pairs}
use Rattle.gp_notify.specs.Deciding.{are_apart}
use Rattle.gp_notify.proofs.deciding.all_apart.Given as goal

abbrev pub invariant-loop-place : goal.invariant-loop-place
invariant-loop-place l = all_pairs (are_apart l.window) (drop l.place l.pairs) ≡ all_pairs (are_apart l.window) l.pairs
