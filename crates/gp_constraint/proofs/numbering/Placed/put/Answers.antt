use Rattle.std.proofs.Common.{◌≤◌, ap, sym, ◌∙◌, arith, List}
use Rattle.gp_clause.specs.declared.lit.Lit.{Lit}
use Rattle.gp_constraint.specs.Numbering.{with_lit}
use Rattle.gp_constraint.proofs.Ending.{at_end}
use Rattle.gp_constraint.proofs.numbering.Placed.put.Goals as goal

pub returns-then-from-self : goal.returns-then-from-self
returns-then-from-self c =
    let lits : List Lit = c.self.inside.lits.items in
    let most : c.self.inside.above ≤ c.args.lit.variable = (let own = c.from.ensures in let is = c.if-from-self.true in omega (arith, own, is)) in
    c.in_ok-push.ensures.items ∙ sym (at_end c.self.inside.above lits c.args.lit c.self.invariant most) ∙ ap (λ ls. with_lit ls c.args.lit) c.self.view_is
