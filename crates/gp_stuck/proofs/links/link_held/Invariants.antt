use Rattle.std.proofs.Common.{ℕ, List, ◌⊎◌}
use Rattle.std.specs.Prelude.{Contains}
use Rattle.gp_trace.specs.declared.lock_use.LockMode.{LockMode}
use Rattle.gp_stuck.specs.declared.link.Link.{Link}
use Rattle.gp_stuck.specs.Links.{link_of}
use Rattle.gp_stuck.proofs.links.link_held.Given as goal

abbrev pub invariant-loop-held : goal.invariant-loop-held
invariant-loop-held l = record {
  kept : (link : Link) → Contains l.initial.links link → Contains l.links link;
  linked : (entry : List ℕ × LockMode) → Contains l.holding.held entry → Contains l.held-iterator entry ⊎ Contains l.links (link_of l.holding.id.thread l.lock l.wanted entry);
}
