use Rattle.std.proofs.Common.{◌≡◌, drop}
use Rattle.std.specs.Prelude.{map}
use Rattle.gp_constraint.specs.Numbering.{with_mentions}
use Rattle.gp_constraint.specs.QueryNames.{all_names}
use Rattle.gp_constraint.proofs.instance_query.mention_lits.Given as goal

abbrev pub invariant-loop-lit : goal.invariant-loop-lit
invariant-loop-lit l = record {
  base : l.names.base ≡ l.fn.names.base;
  all : with_mentions (all_names l.names) (map (λ lit. lit.symbol) (drop l.lit-index l.lits)) ≡ with_mentions (all_names l.fn.names) (map (λ lit. lit.symbol) l.lits);
}
