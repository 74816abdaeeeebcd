use Rattle.std.specs.Prelude.{MatchOption}
use Rattle.std.proofs.Common.{subst}
use Rattle.gp_sat.specs.Deciding.{IsNextFree, IsFull}
use Rattle.gp_sat.specs.State.{SolverForm}
use Rattle.gp_search.proofs.engine.Engine.free_variable.Goals as goal

pub returns-clause-free : goal.returns-clause-free
returns-clause-free c = subst (λ (s : SolverForm). MatchOption c.next_free.result (IsFull s) (IsNextFree s)) c.next_free.ensures.same c.next_free.ensures.free
