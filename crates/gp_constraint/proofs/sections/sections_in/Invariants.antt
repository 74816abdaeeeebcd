use Rattle.std.proofs.Common.{◌≡◌, ◌++◌, drop}
use Rattle.std.specs.Prelude.{flat_map}
use Rattle.gp_constraint.specs.SectionTables.{section_at}
use Rattle.gp_constraint.proofs.sections.sections_in.Given as goal

abbrev pub invariant-loop-p : goal.invariant-loop-p
invariant-loop-p l = l.sections ++ flat_map (section_at l.points) (drop l.p-index l.p-items) ≡ flat_map (section_at l.points) l.p-items
