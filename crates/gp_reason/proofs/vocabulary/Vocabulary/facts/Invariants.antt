use Rattle.std.proofs.Common.{◌≡◌, ◌++◌, drop}
use Rattle.gp_reason.specs.Facts.{facts_of}
use Rattle.gp_reason.proofs.vocabulary.Vocabulary.facts.Given as goal

abbrev pub invariant-loop-lit : goal.invariant-loop-lit
invariant-loop-lit l = l.facts ++ facts_of l.self.window l.self.names (drop l.lit-index l.lits) ≡ facts_of l.self.window l.self.names l.lits
