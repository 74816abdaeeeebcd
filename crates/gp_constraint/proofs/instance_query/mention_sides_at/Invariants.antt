use Rattle.std.proofs.Common.{◌≡◌, drop}
use Rattle.std.specs.Prelude.{flat_map}
use Rattle.gp_constraint.specs.Numbering.{with_mentions}
use Rattle.gp_constraint.specs.QueryNames.{all_names}
use Rattle.gp_constraint.specs.Query.{side}
use Rattle.gp_constraint.proofs.instance_query.mention_sides_at.Given as goal

abbrev pub invariant-loop-p : goal.invariant-loop-p
invariant-loop-p l = record {
  base : l.names.base ≡ l.fn.names.base;
  all : with_mentions (all_names l.names) (flat_map (side l.encoded l.id) (drop l.p-index l.points)) ≡ with_mentions (all_names l.fn.names) (flat_map (side l.encoded l.id) l.points);
}
