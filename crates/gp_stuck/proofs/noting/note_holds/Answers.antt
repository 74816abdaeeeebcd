-- All that is held was noted.
use Rattle.std.proofs.Common.{◌∙◌, ◌++◌, ap, sym}
use Rattle.std.proofs.lemmas.List.{append-nil}
use Rattle.gp_trace.specs.LockUse.{HeldLocks}
use Rattle.gp_constraint.specs.Tables.{entry_at}
use Rattle.gp_stuck.proofs.Notes.{noted_at, noted_once}
use Rattle.gp_stuck.proofs.noting.note_holds.Goals as goal

pub returns : goal.returns
returns c = λ lock.
    sym (append-nil (entry_at c.loop-lock.holders lock))
    ∙ ap (λ (left : HeldLocks). entry_at c.loop-lock.holders lock ++ noted_at c.args.id lock left) (sym c.in-None.ensures.steps.0)
    ∙ c.loop-lock.invariant lock
    ∙ ap (λ back. entry_at c.args.holders.now lock ++ back) (noted_once c.args.id lock c.args.held.now c.iter-lock-items.ensures.ordered)
