-- A walk before the last window goes on.
use Rattle.std.proofs.Common.{arith}
use Rattle.gp_window.proofs.StillToCome.{next_taken}
use Rattle.gp_window.proofs.windows.next_to.Goals as goal

pub returns-then-number-last-clause-first : goal.returns-then-number-last-clause-first
returns-then-number-last-clause-first c = next_taken c.args.last c.args.walk c.advance.result c.requires (omega (arith, c.number.ensures.number, c.if-number-last.true)) c.advance.ensures
