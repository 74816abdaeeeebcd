use Rattle.std.proofs.Common.{◌≡◌, ◌++◌, drop}
use Rattle.gp_merge.specs.Checking.{parts_alone}
use Rattle.gp_merge.proofs.checking.parts_alone.Given as goal

abbrev pub invariant-loop-one : goal.invariant-loop-one
invariant-loop-one l = l.alone ++ parts_alone (drop l.one-index l.parts) ≡ parts_alone l.parts
