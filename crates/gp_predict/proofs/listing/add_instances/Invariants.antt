use Rattle.std.proofs.Common.{◌≡◌, ◌++◌, drop}
use Rattle.gp_predict.specs.Listing.{instance_lines}
use Rattle.gp_predict.proofs.listing.add_instances.Given as goal

abbrev pub invariant-loop-number : goal.invariant-loop-number
invariant-loop-number l =
    l.lines ++ instance_lines l.number (drop l.number l.found) ≡ l.initial.lines ++ instance_lines 0 l.found
