use Rattle.std.proofs.Common.{◌≡◌, drop}
use Rattle.std.specs.Prelude.{flat_map}
use Rattle.gp_instance.specs.Matches.{groups_of}
use Rattle.gp_constraint.specs.Numbering.{with_mentions}
use Rattle.gp_constraint.specs.QueryNames.{all_names}
use Rattle.gp_constraint.specs.Query.{sides_of}
use Rattle.gp_constraint.proofs.instance_query.mention_sides.Given as goal

abbrev pub invariant-loop-step : goal.invariant-loop-step
invariant-loop-step l = record {
  base : l.names.base ≡ l.fn.names.base;
  all : with_mentions (all_names l.names) (flat_map (sides_of l.encoded) (groups_of (drop l.step-index l.pattern) l.rest)) ≡ with_mentions (all_names l.fn.names) (flat_map (sides_of l.encoded) (groups_of l.pattern l.ids));
}
