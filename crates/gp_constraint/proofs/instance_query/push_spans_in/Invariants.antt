use Rattle.std.proofs.Common.{◌≡◌, ◌++◌, drop}
use Rattle.std.specs.Prelude.{flat_map}
use Rattle.gp_constraint.specs.Query.{span_lit}
use Rattle.gp_constraint.proofs.instance_query.push_spans_in.Given as goal

abbrev pub invariant-loop-one : goal.invariant-loop-one
invariant-loop-one l = l.lits ++ flat_map (λ one. flat_map (span_lit l.encoded l.width one) l.group) (drop l.one-index l.group) ≡ l.initial.lits ++ flat_map (λ one. flat_map (span_lit l.encoded l.width one) l.group) l.group
