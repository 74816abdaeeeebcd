-- One good clause more waits.
use Rattle.std.proofs.Common.{All, subst, sym}
use Rattle.std.proofs.lemmas.List.Elements.{All-push}
use Rattle.gp_derivation.specs.Exchange.{IsGood}
use Rattle.gp_solver_rows.proofs.passing.waiting_of.Goals as goal

pub loop-words-preserved : goal.loop-words-preserved
loop-words-preserved g c =
    subst (All (IsGood c.args.problem.now)) (sym c.wait.ensures)
    (All-push (IsGood c.args.problem.now) c.loop-words.waiting.items c.shared_of-shared.result c.loop-words.invariant c.shared_of-shared.ensures.good)
