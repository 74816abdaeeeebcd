use Rattle.std.proofs.Common.{sym, ◌∙◌, ap, subst, ℕ, get_or, arith}
use Rattle.gp_sat.specs.WatchesForm.{WatchesForm}
use Rattle.gp_sat.specs.Stepping.{OnWalk}
use Rattle.gp_sat.specs.Watching.{no_slot}
use Rattle.gp_clause.specs.Lit.{opposite}
use Rattle.gp_sat.proofs.Steps.{propagates_more}
use Rattle.gp_sat.proofs.Walks.{trail_short, walk_begins_at, fallen_code, walk_done, on_walk_more}
use Rattle.gp_sat.proofs.walk.walk.Goals as goal

pub loop-fallen-preserved : goal.loop-fallen-preserved
loop-fallen-preserved c = on_walk_more c.args.kernel.now c.loop-fallen.kernel c.step.new.kernel c.args.watches.now c.loop-fallen.watches c.step.new.watches c.next_fallen-fallen.result c.loop-fallen.invariant c.in-None.ensures.step c.step.ensures.added

pub returns-clause-walked : goal.returns-clause-walked
returns-clause-walked c = walk_done c.args.kernel.now c.loop-fallen.kernel c.args.watches.now c.loop-fallen.watches c.next_fallen-fallen.result c.loop-fallen.invariant (c.has_work.ensures.no c.loop-fallen-test.false)

pub returns-in-Some-clause-added : goal.returns-in-Some-clause-added
returns-in-Some-clause-added c = propagates_more c.args.kernel.now c.loop-fallen.kernel c.step.new.kernel c.loop-fallen.invariant.added c.step.ensures.added

pub begin-requires-clause-named : goal.begin-requires-clause-named
begin-requires-clause-named c = fallen_code c.args.kernel.now c.args.watches.now c.next_fallen-fallen.result c.requires.idle c.requires.within
    (c.next_fallen-fallen.ensures ∙ ap (λ (p : ℕ). opposite (get_or c.args.kernel.now.trail p no_slot.lit)) c.cursor.ensures)

pub begin-requires-clause-few : goal.begin-requires-clause-few
begin-requires-clause-few c = omega (arith, c.requires.within, trail_short c.args.kernel.now c.requires.idle.sound)

pub loop-fallen-init : goal.loop-fallen-init
loop-fallen-init c = subst (λ (l : WatchesForm). OnWalk c.args.kernel.now c.args.kernel.now c.args.watches.now l c.next_fallen-fallen.result) (sym c.begin.ensures)
    (walk_begins_at c.args.kernel.now c.args.watches.now c.next_fallen-fallen.result c.requires.idle c.requires.within
    (c.next_fallen-fallen.ensures ∙ ap (λ (p : ℕ). opposite (get_or c.args.kernel.now.trail p no_slot.lit)) c.cursor.ensures))
