use Rattle.std.proofs.Common.{subst, sym, None, List}
use Rattle.gp_clause.specs.declared.lit.Lit.{Lit}
use Rattle.gp_search.specs.Inside.{IsConflict}
use Rattle.gp_search.proofs.Conflicts.{tag_within, all_tags}
use Rattle.gp_search.proofs.engine.Engine.cycle_clause.Goals as goal

pub false_lit-requires : goal.false_lit-requires
false_lit-requires c =
    tag_within c.args.self.now.solver c.args.self.now.graph.cycle c.cycle-tag-items.result.now c.loop-tag.tag-index 0 c.requires.all_false c.cycle-tag-items.ensures c.loop-tag-test.true

pub returns : goal.returns
returns c =
    let P : List Lit → Type 0 = λ ls. IsConflict c.args.asked.now.problem.now c.args.asked.now.query.now c.args.self.now.solver ls None in
    subst P (sym (all_tags c.args.self.now.solver c.args.self.now.graph.cycle c.cycle-tag-items.result.now c.loop-tag.lits.items c.loop-tag.tag-index c.loop-tag.invariant c.cycle-tag-items.ensures c.loop-tag-test.false)) c.requires
