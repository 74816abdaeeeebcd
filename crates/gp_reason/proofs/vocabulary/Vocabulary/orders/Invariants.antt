use Rattle.std.proofs.Common.{◌≡◌, ◌++◌, drop}
use Rattle.gp_reason.specs.Cycles.{orders_of}
use Rattle.gp_reason.proofs.vocabulary.Vocabulary.orders.Given as goal

abbrev pub invariant-loop-lit : goal.invariant-loop-lit
invariant-loop-lit l = l.orders ++ orders_of l.self.window l.self.names (drop l.lit-index l.lits) ≡ orders_of l.self.window l.self.names l.lits
