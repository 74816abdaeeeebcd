-- Where no link may be that of a second event, no cycle begins.
use Rattle.std.proofs.Common.{◌≡◌, ◌∙◌, ap, sym}
use Rattle.std.specs.Prelude.{Option, Some}
use Rattle.gp_trace.specs.declared.lock_use.LockUse.{LockUse}
use Rattle.gp_trace.specs.declared.lock_use.LockUse.TheVariants.{Take}
use Rattle.gp_window.specs.WindowForm.{WindowForm}
use Rattle.gp_replay.specs.LockUses.{use_at}
use Rattle.gp_stuck.proofs.Narrowed.{none_begins}
use Rattle.gp_stuck.proofs.narrowing.may_begin.Goals as goal

pub returns-in-Take : goal.returns-in-Take
returns-in-Take c = λ none.
    let uses : ◌≡◌ {A = Option LockUse} (use_at c.args.waiting.now c.args.first.now.holding.id) (Some (Take c.in-Take.mode c.in-Take.lock)) =
    ap (λ (w : WindowForm). use_at w c.args.first.now.holding.id) (sym c.window.ensures) ∙ sym c.use_at.ensures ∙ c.in-Some.is ∙ ap Some c.in-Take.is in
    none_begins c.args.waiting.now c.args.first.now c.args.links.now c.in-Take.mode c.in-Take.lock (c.requires.first.narrowed c.if-not-first.false) (c.requires.linked c.if-not-first.false) uses (sym c.has_second.ensures ∙ none)
