use Rattle.std.proofs.Common.{◌≡◌, ◌++◌, drop}
use Rattle.std.specs.List.{flat_map}
use Rattle.gp_stuck.specs.Noted.{holders_of, standing}
use Rattle.gp_stuck.specs.Search.{going_on, takers_of}
use Rattle.gp_stuck.proofs.search.standing.Given as goal

abbrev pub invariant-loop-holder : goal.invariant-loop-holder
invariant-loop-holder l = record {
  walk : flat_map (going_on l.waiting l.first.holding.id l.passed l.fewer) l.kept
      ++ flat_map (going_on l.waiting l.first.holding.id l.passed l.fewer) (standing l.waiting l.mode l.first.holding.id l.passed (drop l.holder-index l.holder-items))
      ≡ flat_map (going_on l.waiting l.first.holding.id l.passed l.fewer) (standing l.waiting l.mode l.first.holding.id l.passed (holders_of l.waiting l.fn.lock (takers_of l.waiting)));
}
