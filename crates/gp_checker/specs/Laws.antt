-- The laws of lower layers on which the check rests.
use Rattle.gp_constraint.specs.Laws.{ProblemsAreValid}
use Rattle.gp_certificate.specs.Shared.{RefutedOverMeans}
use Rattle.gp_property.specs.Laws.{AtomsKept}
use Rattle.gp_replay.specs.Feasible.{ReplayMeansFeasible}
use Rattle.gp_witness.specs.Complete.{SchedulesAreComplete}

-- problems and queries are valid, properties have one to six atoms, replay tells what is feasible, schedules give
-- valuations, and what is refuted has none
pub record Laws : Type 0 where
  pub valid : ProblemsAreValid
  pub atoms : AtomsKept
  pub replay : ReplayMeansFeasible
  pub complete : SchedulesAreComplete
  pub refuted : RefutedOverMeans
