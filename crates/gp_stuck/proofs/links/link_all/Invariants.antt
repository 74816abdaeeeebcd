use Rattle.std.proofs.Common.{take}
use Rattle.gp_stuck.specs.Links.{AreLinked, IsHolding}
use Rattle.gp_stuck.proofs.links.link_all.Given as goal

abbrev pub invariant-loop-id : goal.invariant-loop-id
invariant-loop-id l = record {
  holding : IsHolding l.waiting l.holding;
  linked : AreLinked l.waiting (take l.id-index l.id-items) l.links;
}
