use Rattle.std.proofs.Common.{inr}
use Rattle.gp_certificate.proofs.assignment.Assignment.standing.Goals as goal

pub returns-then-other_unassigned : goal.returns-then-other_unassigned
returns-then-other_unassigned c = inr (c.in-Some.lit, c.in-Some.ensures.0, c.in-Some.ensures.1, c.other_unassigned.ensures.0 c.if-other_unassigned.true)
