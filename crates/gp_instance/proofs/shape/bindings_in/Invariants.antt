use Rattle.std.proofs.Common.{◌≡◌, ◌++◌, drop}
use Rattle.gp_instance.specs.Shape.{bindings_in}
use Rattle.gp_instance.proofs.shape.bindings_in.Given as goal

abbrev pub invariant-loop-place : goal.invariant-loop-place
invariant-loop-place l = l.bindings ++ bindings_in (drop l.place l.terms) (drop l.place l.names) ≡ bindings_in l.terms l.names
