-- What waits so far is good.
use Rattle.std.specs.Prelude.{All}
use Rattle.gp_derivation.specs.Exchange.{IsGood}
use Rattle.gp_solver_rows.proofs.passing.waiting_of.Given as goal

abbrev pub invariant-loop-words : goal.invariant-loop-words
invariant-loop-words g l = All (IsGood l.problem) l.waiting.items
