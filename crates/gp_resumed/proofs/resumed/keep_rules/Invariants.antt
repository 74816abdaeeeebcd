use Rattle.std.proofs.Common.{All, length}
use Rattle.gp_property.specs.Property.{IsProperty}
use Rattle.gp_resumed.proofs.resumed.keep_rules.Given as goal

abbrev pub decreases-loop-property : goal.decreases-loop-property
decreases-loop-property l = length l.left

abbrev pub invariant-loop-property : goal.invariant-loop-property
invariant-loop-property l = All IsProperty l.left → All IsProperty l.properties
