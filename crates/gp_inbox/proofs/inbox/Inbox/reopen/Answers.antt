-- The split keeps the rule at the base and the senders that were named.
use Rattle.std.proofs.Common.{ℕ, List, Option, subst, sym}
use Rattle.crossbeam_queue.specs.Fifo.{Forks}
use Rattle.crossbeam_queue.specs.Passes.{view}
use Rattle.gp_clause.specs.declared.problem.Problem.{Problem}
use Rattle.gp_inbox.specs.Rule.{Kept}
use Rattle.gp_inbox.specs.Views.{opened, spent}
use Rattle.gp_inbox.proofs.Steps.{reopens}
use Rattle.gp_inbox.proofs.inbox.Inbox.reopen.Goals as goal

pub another-requires-clause-rule : goal.another-requires-clause-rule
another-requires-clause-rule g c =
    subst (λ (named : Option Problem × List ℕ). Forks Kept c.args.pass.now.id (view c.args.pass.now) (opened named.0 named.1) spent) (λ i. (sym c.requires.named.0 i, sym c.requires.named.1 i))
    (reopens _ _ c.args._base.now c.args._senders.now c.requires.whole c.requires.same)
