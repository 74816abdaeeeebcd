use Rattle.std.proofs.Common.{◌≡◌, true}
use Rattle.std.specs.List.{list_all}
use Rattle.gp_instance.specs.Partners.{is_shared}
use Rattle.gp_instance.proofs.link.shared_of.Given as goal

abbrev pub invariant-loop-place : goal.invariant-loop-place
invariant-loop-place l = list_all (is_shared l.ones l.others) l.shared ≡ true
