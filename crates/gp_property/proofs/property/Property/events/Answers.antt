use Rattle.gp_property.proofs.property.Property.events.Goals as goal

pub returns-clause-property : goal.returns-clause-property
returns-clause-property c = rw (← c.self.view_is) c.self.invariant
