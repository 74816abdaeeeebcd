use Rattle.std.proofs.Common.{rules, ◌≤◌, ◌-◌, take, length, ap, ◌∙◌, sym, List}
use Rattle.std.proofs.lemmas.List.{take-take, take_all}
use Rattle.gp_clause.specs.declared.lit.Lit.{Lit}
use Rattle.gp_certificate.proofs.assignment.Assignment.cut_to.Goals as goal

pub loop-self-preserved : goal.loop-self-preserved
loop-self-preserved c =
    let more : c.args.count ≤ length c.loop-self.self.trail.items - 1 = search rules in (
      c.take_back.ensures.kept,
      ap (λ (ls : List Lit). take c.args.count ls) c.take_back.ensures.trail ∙ take-take c.args.count (length c.loop-self.self.trail.items - 1) c.loop-self.self.trail.items more ∙ c.loop-self.invariant.1,
      c.take_back.ensures.size ∙ c.loop-self.invariant.2,
      c.take_back.ensures.cursor ∙ c.loop-self.invariant.3,
    )

pub returns-clause-trail : goal.returns-clause-trail
returns-clause-trail c =
    let end : length c.loop-self.self.trail.items ≤ c.args.count = search rules in
    sym (take_all c.args.count c.loop-self.self.trail.items end) ∙ c.loop-self.invariant.1
