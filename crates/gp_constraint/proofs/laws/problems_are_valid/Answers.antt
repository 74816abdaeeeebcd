use Rattle.gp_constraint.specs.InstanceLaws.{instance_means}
use Rattle.gp_constraint.proofs.Once.{query_valid}
use Rattle.gp_constraint.proofs.Valid.{base_valid, edges_solvable}
use Rattle.gp_constraint.proofs.laws.problems_are_valid.Goals as goal

pub returns : goal.returns
returns c = record {
  base = base_valid;
  solvable = edges_solvable;
  query = λ window property ids few some instance. query_valid window property ids few some (instance_means window property ids instance);
}
