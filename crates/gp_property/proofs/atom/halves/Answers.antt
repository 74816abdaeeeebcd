-- After two cuts there are three parts at least.
use Rattle.gp_property.proofs.Halves.{second_cut}
use Rattle.gp_property.proofs.atom.halves.Goals as goal

pub returns-in-Some : goal.returns-in-Some
returns-in-Some c =
    rw (c.in_ok-front.ensures.parts, c.in-Some.ensures.parts)
    (second_cut c.args.at c.in_ok-front.front.now c.in-Some.field-0.0.now c.in-Some.field-0.1.now)
