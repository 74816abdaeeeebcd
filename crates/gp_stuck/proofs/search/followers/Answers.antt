-- Those that hold the lock are all that may follow.
use Rattle.std.proofs.Common.{◌≡◌, ◌∙◌, ap, sym}
use Rattle.std.specs.Prelude.{Option, Some, None}
use Rattle.std.specs.List.{flat_map}
use Rattle.std.proofs.lemmas.Result.{IfOk-weaker}
use Rattle.gp_trace.specs.declared.lock_use.LockUse.{LockUse}
use Rattle.gp_trace.specs.declared.lock_use.LockUse.TheVariants.{Take, GiveBack}
use Rattle.gp_window.specs.WindowForm.{WindowForm}
use Rattle.gp_replay.specs.LockUses.{use_at}
use Rattle.gp_stuck.specs.Cycle.{waits_by}
use Rattle.gp_stuck.specs.Search.{going_on, takers_of}
use Rattle.gp_stuck.proofs.Standing.{none_follow, stand_after}
use Rattle.gp_stuck.proofs.search.followers.Goals as goal

pub returns-in_default : goal.returns-in_default
returns-in_default c =
    let uses : ◌≡◌ {A = Option LockUse} (use_at c.args.waiting.now c.args.last) None =
    ap (λ (w : WindowForm). use_at w c.args.last) (sym c.window.ensures) ∙ sym c.use_at.ensures ∙ c.in_default.is in
    ap (flat_map (going_on c.args.waiting.now c.args.first.now.holding.id c.args.passed.now c.args.fewer)) (c.new.ensures ∙ none_follow c.args.waiting.now c.args.first.now.holding.id c.args.passed.now c.args.last (takers_of c.args.waiting.now)
    (λ other. ap (λ lock_use. waits_by c.args.waiting.now lock_use other) uses))

pub returns-in-Take : goal.returns-in-Take
returns-in-Take c =
    let uses : ◌≡◌ {A = Option LockUse} (use_at c.args.waiting.now c.args.last) (Some (Take c.in-Take.mode c.in-Take.lock)) =
    ap (λ (w : WindowForm). use_at w c.args.last) (sym c.window.ensures) ∙ sym c.use_at.ensures ∙ c.in-Some.is ∙ ap Some c.in-Take.is in
    IfOk-weaker c.standing.result _ _
    (λ kept h. h ∙ ap (flat_map (going_on c.args.waiting.now c.args.first.now.holding.id c.args.passed.now c.args.fewer)) (stand_after c.args.waiting.now c.in-Take.mode c.in-Take.lock c.args.first.now.holding.id c.args.passed.now c.args.last (takers_of c.args.waiting.now) uses))
    c.standing.ensures

pub returns-in-GiveBack : goal.returns-in-GiveBack
returns-in-GiveBack c =
    let uses : ◌≡◌ {A = Option LockUse} (use_at c.args.waiting.now c.args.last) (Some (GiveBack c.in-GiveBack.field-0 c.in-GiveBack.field-1)) =
    ap (λ (w : WindowForm). use_at w c.args.last) (sym c.window.ensures) ∙ sym c.use_at.ensures ∙ c.in-Some.is ∙ ap Some c.in-GiveBack.is in
    ap (flat_map (going_on c.args.waiting.now c.args.first.now.holding.id c.args.passed.now c.args.fewer)) (c.new-in-GiveBack.ensures ∙ none_follow c.args.waiting.now c.args.first.now.holding.id c.args.passed.now c.args.last (takers_of c.args.waiting.now)
    (λ other. ap (λ lock_use. waits_by c.args.waiting.now lock_use other) uses))
