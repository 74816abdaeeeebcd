use Rattle.std.proofs.Common.{◌≡◌, ◌++◌, drop}
use Rattle.gp_instance.specs.Partners.{shared_names}
use Rattle.gp_instance.proofs.key.add_names.Given as goal

abbrev pub invariant-loop-places : goal.invariant-loop-places
invariant-loop-places l = l.numbers ++ shared_names l.side (drop l.places-index l.shared) l.names ≡ l.initial.numbers ++ shared_names l.side l.shared l.names
