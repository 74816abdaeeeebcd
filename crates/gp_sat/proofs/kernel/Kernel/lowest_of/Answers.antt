use Rattle.std.proofs.Common.{sym, subst, false, List, get_or, take}
use Rattle.std.proofs.lemmas.List.{take_more, take_all}
use Rattle.gp_clause.specs.declared.lit.Lit.{Lit}
use Rattle.gp_sat.specs.Marking.{IsLowestOf}
use Rattle.gp_sat.proofs.Leading.{lowest_none, lowest_more}
use Rattle.gp_sat.proofs.kernel.Kernel.lowest_of.Goals as goal

abbrev d : Lit
d = record { variable = 0; positive = false }

pub loop-lit-init : goal.loop-lit-init
loop-lit-init c = lowest_none c.args.self.now c.args.lowest

pub loop-lit-preserved : goal.loop-lit-preserved
loop-lit-preserved c = subst (λ (xs : List Lit). IsLowestOf c.args.self.now xs c.args.lowest c.lower-least.result) (sym (take_more c.args.lits.now c.loop-lit.lit-index d c.loop-lit-test.true))
    (lowest_more c.args.self.now (take c.loop-lit.lit-index c.args.lits.now) (get_or c.args.lits.now c.loop-lit.lit-index d) c.args.lowest c.loop-lit.least c.lower-least.result c.loop-lit.invariant c.lower-least.ensures)

pub returns : goal.returns
returns c = subst (λ (xs : List Lit). IsLowestOf c.args.self.now xs c.args.lowest c.loop-lit.least) (take_all c.loop-lit.lit-index c.args.lits.now c.loop-lit-test.false) c.loop-lit.invariant
