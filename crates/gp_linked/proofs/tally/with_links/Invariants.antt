use Rattle.std.proofs.Common.{◌≡◌, drop}
use Rattle.gp_linked.specs.Tally.{with_links}
use Rattle.gp_linked.proofs.tally.with_links.Given as goal

abbrev pub invariant-loop-link : goal.invariant-loop-link
invariant-loop-link l = with_links l.tally (drop l.link-index l.links) ≡ with_links l.initial.tally l.links
