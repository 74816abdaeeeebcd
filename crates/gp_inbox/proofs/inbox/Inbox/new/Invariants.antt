-- The base and the senders of the inbox are those that were given.
use Rattle.std.proofs.Common.{Some}
use Rattle.gp_inbox.proofs.inbox.Inbox.new.Given as goal

abbrev pub ghosts-open : goal.ghosts-open
ghosts-open a = record { base = Some a._base.now; senders = a._senders.now }
