-- The laws of lower layers on which the check rests.
use Rattle.gp_certificate.specs.Shared.{RefutedOverMeans}
use Rattle.gp_constraint.specs.Laws.{ProblemsAreValid}
use Rattle.gp_replay.specs.Feasible.{ReplayMeansFeasible}
use Rattle.gp_stuck.specs.Laws.{CyclesAreListed, CyclesBlock, StuckQueriesAreValid, StuckSchedulesAreComplete}
use Rattle.gp_witness.specs.Complete.{SchedulesAreComplete}

-- problems and the queries of cycles are valid, what is listed are cycles, replay tells what is feasible, cycles block where
-- their events are next, schedules give valuations, also of the queries of cycles, and what is refuted has none
pub record Laws : Type 0 where
  pub valid : ProblemsAreValid
  pub queries : StuckQueriesAreValid
  pub listed : CyclesAreListed
  pub replay : ReplayMeansFeasible
  pub block : CyclesBlock
  pub complete : SchedulesAreComplete
  pub stuck : StuckSchedulesAreComplete
  pub refuted : RefutedOverMeans
