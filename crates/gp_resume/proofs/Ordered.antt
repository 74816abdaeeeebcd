-- Events are ordered by thread and then by index, and the same alone are level.
use Rattle.std.proofs.Common.{rules}
use Rattle.std.specs.Cmp.Rules.{comparing}
use Rattle.gp_window.specs.contracts.schedule.EventIdOrd.TheImpl.{cmp-value}
use Rattle.gp_resume.proofs.Looked.{IsOrder}

pub events_ordered : IsOrder cmp-value.it
events_ordered = record {
  total = search (comparing, rules);
  ties = λ one other. search rules;
}
