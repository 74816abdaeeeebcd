-- Where those that are left keep the rules, all do; and none is left.
use Rattle.std.proofs.Common.{sym, subst, All, arith}
use Rattle.std.proofs.lemmas.List.Elements.{All-cons}
use Rattle.gp_property.specs.Property.{IsProperty}
use Rattle.gp_resumed.proofs.resumed.keep_rules.Goals as goal

pub loop-property-preserved : goal.loop-property-preserved
loop-property-preserved c = λ more.
    c.loop-property.invariant (subst (All IsProperty) (sym c.in-Some.ensures.cases.0) (All-cons IsProperty c.in-Some.property.now c.in-Some.more.now c.keeps_rules.ensures more))

pub returns : goal.returns
returns c = c.loop-property.invariant (λ k d below. absurd (omega (arith, below, c.in_default.ensures.cases)))
