use Rattle.gp_clause.specs.WalkLaws.{none_negative}
use Rattle.gp_clause.proofs.walk.keeping_leaves_no_cycle.Goals as goal

pub returns : goal.returns
returns c = none_negative
