-- One lock more, and at the end each that is held.
use Rattle.std.proofs.Common.{ℕ, List, subst, inl, inr}
use Rattle.std.specs.Prelude.{Contains}
use Rattle.gp_base.specs.ListLaws.{first_or_rest, nothing_in}
use Rattle.gp_trace.specs.declared.lock_use.LockMode.{LockMode}
use Rattle.gp_trace.specs.LockUse.{HeldLocks}
use Rattle.gp_stuck.specs.Links.{link_of}
use Rattle.gp_stuck.proofs.Ways.{held_entry}
use Rattle.gp_stuck.proofs.links.link_held.Goals as goal

pub loop-held-preserved : goal.loop-held-preserved
loop-held-preserved c = record {
  kept = λ link old. c.in_ok-add_link.ensures.kept link (c.loop-held.invariant.kept link old);
  linked = λ entry among.
      elim (c.loop-held.invariant.linked entry among) [
        | inl left ↦ elim (first_or_rest (c.in-Some.held.now, c.in-Some.mode.now) c.next.new.self entry (subst (λ (entries : HeldLocks). Contains entries entry) c.in-Some.ensures.steps left)) [
          | inl same ↦ inr (subst (λ (one : List ℕ × LockMode). Contains c.add_link.new.links (link_of c.args.holding.now.id.thread c.args.lock c.args.wanted one)) same c.in_ok-add_link.ensures.there)
          | inr later ↦ inl later
        ]
        | inr old ↦ inr (c.in_ok-add_link.ensures.kept (link_of c.args.holding.now.id.thread c.args.lock c.args.wanted entry) old)
      ];
}

pub returns-clause-linked : goal.returns-clause-linked
returns-clause-linked c = λ held mode is.
    elim (c.loop-held.invariant.linked (held, mode) (held_entry c.args.holding.now.held held mode is)) [
      | inl left ↦ absurd (nothing_in (held, mode) (subst (λ (entries : HeldLocks). Contains entries (held, mode)) c.in-None.ensures.steps.0 left))
      | inr there ↦ there
    ]
