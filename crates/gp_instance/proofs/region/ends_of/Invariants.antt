use Rattle.std.proofs.Common.{◌≡◌, ◌-◌, drop, length, reverse}
use Rattle.gp_instance.specs.Region.{ends_from}
use Rattle.gp_instance.proofs.Ends.{waiting_from}
use Rattle.gp_instance.proofs.region.ends_of.Given as goal

abbrev pub invariant-loop-behind : goal.invariant-loop-behind
invariant-loop-behind l = record {
  waits : l.waiting.items ≡ waiting_from (length l.segment - l.behind) (drop (length l.segment - l.behind) l.segment);
  made : reverse l.ends.items ≡ ends_from (length l.segment - l.behind) (drop (length l.segment - l.behind) l.segment);
}
