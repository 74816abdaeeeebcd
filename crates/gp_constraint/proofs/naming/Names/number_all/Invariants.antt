use Rattle.std.proofs.Common.{◌≡◌, drop}
use Rattle.gp_constraint.specs.Numbering.{with_mentions}
use Rattle.gp_constraint.proofs.naming.Names.number_all.Given as goal

abbrev pub invariant-loop-symbol : goal.invariant-loop-symbol
invariant-loop-symbol l = with_mentions l.self (drop l.symbol-index l.symbols) ≡ with_mentions l.fn.self l.symbols
