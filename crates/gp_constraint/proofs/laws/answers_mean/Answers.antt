use Rattle.gp_constraint.specs.Base.{names_in}
use Rattle.gp_constraint.specs.Query.{mentioned}
use Rattle.gp_constraint.specs.Query.{query_names}
use Rattle.gp_constraint.proofs.Names.{grows_none, mentions_grow}
use Rattle.gp_constraint.proofs.Valued.{answer_base, answer_clauses, answer_points, answer_query}
use Rattle.gp_constraint.proofs.laws.answers_mean.Goals as goal

pub returns : goal.returns
returns c = record {
  base = answer_base;
  clauses = answer_clauses;
  query = answer_query;
  points = λ window v point below. answer_points window (names_in window) v point (grows_none (names_in window)) below;
  query_points = λ window property ids v point below.
      answer_points window (query_names window property ids) v point (mentions_grow (names_in window) (mentioned window property ids)) below;
}
