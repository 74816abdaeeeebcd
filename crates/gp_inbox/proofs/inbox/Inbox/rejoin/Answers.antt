-- Two passes of one inbox become one.
use Rattle.gp_inbox.proofs.Steps.{joins}
use Rattle.gp_inbox.proofs.inbox.Inbox.rejoin.Goals as goal

pub absorb-requires-clause-rule : goal.absorb-requires-clause-rule
absorb-requires-clause-rule c = joins _ _ _ _ c.requires.into.opened
