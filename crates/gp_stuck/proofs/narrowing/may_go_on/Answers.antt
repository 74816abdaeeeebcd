-- Where the chain may not close, nothing completes it.
use Rattle.std.proofs.Common.{◌≡◌, ◌∙◌, ap, sym}
use Rattle.std.specs.Prelude.{Option, Some}
use Rattle.gp_trace.specs.declared.lock_use.LockUse.{LockUse}
use Rattle.gp_trace.specs.declared.lock_use.LockUse.TheVariants.{Take}
use Rattle.gp_window.specs.WindowForm.{WindowForm}
use Rattle.gp_replay.specs.LockUses.{use_at}
use Rattle.gp_stuck.proofs.Narrowed.{none_complete}
use Rattle.gp_stuck.proofs.narrowing.may_go_on.Goals as goal

pub returns-in-Take : goal.returns-in-Take
returns-in-Take c = λ none.
    let uses : ◌≡◌ {A = Option LockUse} (use_at c.args.waiting.now c.args.id) (Some (Take c.in-Take.mode c.in-Take.lock)) =
    ap (λ (w : WindowForm). use_at w c.args.id) (sym c.window.ensures) ∙ sym c.use_at.ensures ∙ c.in-Some.is ∙ ap Some c.in-Take.is in
    none_complete c.args.waiting.now c.args.first.now c.args.passed.now c.args.id c.in-Take.mode c.in-Take.lock c.args.fewer (c.requires.narrowed c.if-not-first.false) uses (sym c.may_close.ensures ∙ none)
