use Rattle.std.proofs.Common.{◌≡◌, ◌++◌, drop}
use Rattle.std.specs.Prelude.{flat_map}
use Rattle.gp_instance.specs.Matches.{groups_of}
use Rattle.gp_constraint.specs.Query.{spans_in}
use Rattle.gp_constraint.proofs.instance_query.push_spans.Given as goal

abbrev pub invariant-loop-step : goal.invariant-loop-step
invariant-loop-step l = l.lits ++ flat_map (spans_in l.encoded) (groups_of (drop l.step-index l.pattern) l.rest) ≡ l.initial.lits ++ flat_map (spans_in l.encoded) (groups_of l.pattern l.ids)
