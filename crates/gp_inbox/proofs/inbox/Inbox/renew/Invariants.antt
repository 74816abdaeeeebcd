-- The base and the senders of the inbox are those that were given.
use Rattle.std.proofs.Common.{Some}
use Rattle.gp_inbox.proofs.inbox.Inbox.renew.Given as goal

abbrev pub ghosts-reopen : goal.ghosts-reopen
ghosts-reopen a = record { base = Some a._base.now; senders = a._senders.now }
