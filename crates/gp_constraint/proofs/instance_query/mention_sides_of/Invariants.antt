use Rattle.std.proofs.Common.{◌≡◌, drop}
use Rattle.std.specs.Prelude.{flat_map}
use Rattle.gp_constraint.specs.Numbering.{with_mentions}
use Rattle.gp_constraint.specs.QueryNames.{all_names}
use Rattle.gp_constraint.specs.Points.{points_of}
use Rattle.gp_constraint.specs.Query.{side}
use Rattle.gp_constraint.proofs.instance_query.mention_sides_of.Given as goal

abbrev pub invariant-loop-id : goal.invariant-loop-id
invariant-loop-id l = record {
  base : l.names.base ≡ l.fn.names.base;
  all : with_mentions (all_names l.names) (flat_map (λ id. flat_map (side l.encoded id) (points_of l.encoded)) (drop l.id-index l.group)) ≡ with_mentions (all_names l.fn.names) (flat_map (λ id. flat_map (side l.encoded id) (points_of l.encoded)) l.group);
}
