-- Where there is one, the last is the only one.
use Rattle.std.proofs.Common.{◌∙◌, sym}
use Rattle.gp_linked.proofs.Asked.{only_one}
use Rattle.gp_linked.proofs.asking.only_record.Goals as goal

pub returns : goal.returns
returns c = only_one c.args.records c.pop.new.self.items c.in-Some.own c.requires (sym c.into_vec-items.ensures ∙ c.in-Some.ensures.items)
