use Rattle.std.proofs.Common.{◌≡◌, ◌+◌, length}
use Rattle.std.specs.List.{AllByRecursion}
use Rattle.gp_instance.specs.declared.instance.Instance.{Instance}
use Rattle.gp_analysis.specs.Tickets.{tickets_in}
use Rattle.gp_analysis.proofs.counting.tickets_in.Given as goal

abbrev pub decreases-loop-ask : goal.decreases-loop-ask
decreases-loop-ask g l = length l.left

abbrev pub invariant-loop-ask : goal.invariant-loop-ask
invariant-loop-ask g l = record {
  count : l.count + tickets_in (g.Q.Question.form l.question) (g.Q.Question.window_in l.encoded) l.subject l.left
      ≡ tickets_in (g.Q.Question.form l.question) (g.Q.Question.window_in l.encoded) l.subject l.fn.asks;
  lists : AllByRecursion (λ (ask : Instance). g.Q.Question.lists l.question (g.Q.Question.window_in l.encoded) l.subject ask.events) l.left;
}
