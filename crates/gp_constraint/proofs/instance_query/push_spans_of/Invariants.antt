use Rattle.std.proofs.Common.{◌≡◌, ◌++◌, drop}
use Rattle.std.specs.Prelude.{flat_map}
use Rattle.gp_constraint.specs.Query.{span_lit}
use Rattle.gp_constraint.proofs.instance_query.push_spans_of.Given as goal

abbrev pub invariant-loop-other : goal.invariant-loop-other
invariant-loop-other l = l.lits ++ flat_map (span_lit l.encoded l.width l.one) (drop l.other-index l.group) ≡ l.initial.lits ++ flat_map (span_lit l.encoded l.width l.one) l.group
