use Rattle.std.proofs.Common.{sym, ◌∙◌}
use Rattle.gp_constraint.proofs.Mentions.{missed_number}
use Rattle.gp_constraint.proofs.naming.Names.place.Goals as goal

pub returns-in-None : goal.returns-in-None
returns-in-None c = c.len.ensures ∙ sym (missed_number c.args.self.now c.args.symbol (sym c.find.ensures ∙ c.in-None.is))
