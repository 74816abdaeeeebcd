use Rattle.gp_property.proofs.property.Property.keeps_rules.Goals as goal

pub returns : goal.returns
returns c = rw (← c.self.view_is) c.self.invariant
