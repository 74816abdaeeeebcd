-- A push keeps the rule, and a full queue contradicts what the pass knows.
use Rattle.gp_inbox.proofs.Steps.{learns_room, pushes}
use Rattle.gp_inbox.proofs.inbox.Inbox.offer.Goals as goal

pub push_as-requires-clause-rule : goal.push_as-requires-clause-rule
push_as-requires-clause-rule g c = (pushes _ _ _ _ c.requires.good c.requires.sender c.requires.room, learns_room _ _ c.requires.pass.opened)
