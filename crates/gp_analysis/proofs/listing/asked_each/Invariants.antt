use Rattle.std.proofs.Common.{length}
use Rattle.gp_analysis.proofs.Asking.{IsListing}
use Rattle.gp_analysis.proofs.listing.asked_each.Given as goal

abbrev pub invariant-loop-ask : goal.invariant-loop-ask
invariant-loop-ask g l =
    IsListing (g.Q.Question.form l.question) (g.Q.Question.lists l.question) (g.Q.Question.window_in l.encoded) l.subject l.fn.asks l.left l.asked l.initial.queries.items l.queries.items

abbrev pub decreases-loop-ask : goal.decreases-loop-ask
decreases-loop-ask g l = length l.left
