use Rattle.std.proofs.Common.{◌≡◌, drop}
use Rattle.std.specs.Prelude.{find}
use Rattle.gp_shards.specs.Cutting.{is_too_long}
use Rattle.gp_shards.proofs.cutting.length_fault.Given as goal

abbrev pub invariant-loop-made : goal.invariant-loop-made
invariant-loop-made l = find is_too_long (drop l.made-index l.files) ≡ find is_too_long l.files
