use Rattle.std.proofs.Common.{◌≡◌, ◌++◌, drop}
use Rattle.std.specs.Prelude.{map}
use Rattle.gp_constraint.specs.Symbols.{kind_of}
use Rattle.gp_constraint.proofs.naming.kinds_of.Given as goal

abbrev pub invariant-loop-symbol : goal.invariant-loop-symbol
invariant-loop-symbol l = l.kinds ++ map kind_of (drop l.symbol-index l.names) ≡ map kind_of l.names
