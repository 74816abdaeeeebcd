use Rattle.std.proofs.Common.{take}
use Rattle.gp_certificate.specs.Certificate.{clauses_of}
use Rattle.gp_derivation.specs.Room.{Leaves}
use Rattle.gp_derivation.proofs.room.Room.after_steps.Given as goal

abbrev pub invariant-loop-step : goal.invariant-loop-step
invariant-loop-step l = Leaves l.variables l.fn.self (clauses_of (take l.step-index l.steps)) l.room
