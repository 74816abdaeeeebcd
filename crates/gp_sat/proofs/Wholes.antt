-- A solver with no marks goes on having none.
use Rattle.std.proofs.Common.{◌≡◌, sym, subst, ℕ, length}
use Rattle.gp_sat.specs.declared.marking.Marking.{Marking}
use Rattle.gp_sat.specs.State.{SolverForm}
use Rattle.gp_sat.specs.WatchesForm.{WatchesForm}
use Rattle.gp_sat.specs.Stepping.{IsReady}
use Rattle.gp_sat.specs.Queueing.{AreClear}
use Rattle.gp_sat.specs.Whole.{IsWhole}

-- another solver of as many variables
pub whole : (s t : SolverForm) (w left : WatchesForm) (marking : Marking) → length t.values ≡ length s.values → IsWhole s w marking → IsReady t left → IsWhole t left marking
whole s t w left marking size old ready = record {
  ready = ready;
  clear = subst (λ (n : ℕ). AreClear n marking) (sym size) old.clear;
}
