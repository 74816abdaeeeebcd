use Rattle.std.proofs.Common.{subst, false, List}
use Rattle.std.proofs.lemmas.List.{take_all}
use Rattle.gp_clause.specs.declared.lit.Lit.{Lit}
use Rattle.gp_sat.specs.Learning.{IsHighestBelow}
use Rattle.gp_search.proofs.Highest.{highest_more}
use Rattle.gp_sat.specs.SolverLaws.{highest_none}
use Rattle.gp_search.proofs.engine.Engine.highest_below.Goals as goal

-- the literal that stands for none
abbrev no_lit : Lit
no_lit = record { variable = 0; positive = false }

pub loop-lit-init : goal.loop-lit-init
loop-lit-init c = highest_none c.args.self.now.solver

pub higher_below-level-requires : goal.higher_below-level-requires
higher_below-level-requires c = c.requires c.loop-lit.lit-index no_lit c.loop-lit-test.true

pub loop-lit-preserved : goal.loop-lit-preserved
loop-lit-preserved c = highest_more c.args.self.now.solver c.args.lits.now c.loop-lit.lit-index no_lit c.loop-lit.level c.higher_below-level.result c.loop-lit-test.true c.loop-lit.invariant c.higher_below-level.ensures

pub returns : goal.returns
returns c = subst (λ (ls : List Lit). IsHighestBelow c.args.self.now.solver ls c.loop-lit.level) (take_all c.loop-lit.lit-index c.args.lits.now c.loop-lit-test.false) c.loop-lit.invariant
