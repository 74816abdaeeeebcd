use Rattle.std.proofs.Common.{◌≡◌, drop}
use Rattle.std.specs.Prelude.{find}
use Rattle.gp_constraint.specs.Sections.{ends_hold}
use Rattle.gp_constraint.proofs.sections.first_end.Given as goal

abbrev pub invariant-loop-p : goal.invariant-loop-p
invariant-loop-p l = find (ends_hold l.mode l.lock l.thread l.from) (drop l.p-index l.points) ≡ find (ends_hold l.mode l.lock l.thread l.from) l.points
