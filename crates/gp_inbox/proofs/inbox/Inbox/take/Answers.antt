-- A take keeps the rule, and learns of an empty queue.
use Rattle.gp_inbox.proofs.Steps.{learns_owed, takes}
use Rattle.gp_inbox.proofs.inbox.Inbox.take.Goals as goal

pub pop_as-requires-clause-rule : goal.pop_as-requires-clause-rule
pop_as-requires-clause-rule g c = (takes _ _ c.requires.taker, learns_owed _ _ c.requires.taker)
