use Rattle.std.proofs.Common.{length, arith, suc}
use Rattle.gp_window.specs.WindowForm.{window_of}
use Rattle.gp_replay.specs.Step.{start_state}
use Rattle.gp_whole.proofs.Replayed.{alike_itself, replays_from}
use Rattle.gp_whole.proofs.laws.linked_schedules_replay.Goals as goal

pub returns : goal.returns
returns c = λ r schedules ids rules short link feasible.
    replays_from c.links_lead_on.ensures r 1 (start_state (window_of r 1)) schedules ids (suc (length schedules)) rules (omega arith) (omega arith)
    (omega (arith, short)) (alike_itself (start_state (window_of r 1))) link feasible
