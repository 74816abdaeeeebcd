use Rattle.std.proofs.Common.{◌≡◌, ◌∙◌, List, subst}
use Rattle.std.specs.Prelude.{IfOk}
use Rattle.gp_constraint.specs.declared.point.Point.{Point}
use Rattle.gp_notify.proofs.Behind.{no_takers_here, takers_here}
use Rattle.gp_notify.proofs.takers.takers_of.Goals as goal

pub returns-in-Some : goal.returns-in-Some
returns-in-Some c =
    subst (λ (due : List Point). IfOk c.others.result (λ takers. takers ≡ due))
    (takers_here c.args.window.now c.args.g.now c.in-Some.condition c.at.result.now c.in-Some.ensures (c.at.ensures ∙ c.requires.wakers_are c.in-Some.condition))
    c.others.ensures

pub returns-in-None : goal.returns-in-None
returns-in-None c = c.new.ensures ∙ no_takers_here c.args.window.now c.args.g.now c.in-None.ensures
