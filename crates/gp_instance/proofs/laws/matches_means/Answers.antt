-- A schedule that passes the tests matches, and one that matches passes them.
use Rattle.gp_instance.specs.Matches.{groups_of}
use Rattle.gp_instance.proofs.Matched.{is_match, match_passes}
use Rattle.gp_instance.proofs.laws.matches_means.Goals as goal

pub returns : goal.returns
returns c = λ property events schedule apart. (
  is_match events (groups_of property.pattern events) schedule apart,
  match_passes events (groups_of property.pattern events) schedule apart,
)
