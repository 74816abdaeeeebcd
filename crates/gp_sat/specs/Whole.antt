-- What holds of the parts of a solver between its calls.
use Rattle.std.specs.Prelude.{length}
use Rattle.gp_sat.specs.declared.marking.Marking.{Marking}
use Rattle.gp_sat.specs.State.{SolverForm}
use Rattle.gp_sat.specs.WatchesForm.{WatchesForm}
use Rattle.gp_sat.specs.Stepping.{IsReady}
use Rattle.gp_sat.specs.Queueing.{AreClear}

-- its watches are ready, and none of its variables is marked
pub record IsWhole (s : SolverForm) (watches : WatchesForm) (marking : Marking) : Type 0 where
  pub ready : IsReady s watches
  pub clear : AreClear (length s.values) marking
