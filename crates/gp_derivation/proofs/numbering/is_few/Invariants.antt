use Rattle.std.proofs.Common.{◌≡◌, ◌+◌, ◌^◌, take}
use Rattle.std.specs.List.{sum_by}
use Rattle.gp_derivation.specs.Numbering.{size_of}
use Rattle.gp_derivation.proofs.numbering.is_few.Given as goal

abbrev pub invariant-loop-entry : goal.invariant-loop-entry
invariant-loop-entry l = l.base_clauses + sum_by size_of (take l.entry-index l.log) + l.room + 1 ≡ 2 ^ 32
