-- The rule holds of the empty queue and the blank pass.
use Rattle.gp_inbox.proofs.Beginning.{begins}
use Rattle.gp_inbox.proofs.inbox.Inbox.blank.Goals as goal

pub ruled-requires-clause-rule : goal.ruled-requires-clause-rule
ruled-requires-clause-rule c = begins
