-- One event after another.
use Rattle.std.proofs.Common.{◌∙◌, ap, get_or, refl}
use Rattle.gp_window.specs.WindowForm.{WindowForm}
use Rattle.gp_window.specs.declared.schedule.EventId.{EventId}
use Rattle.gp_story.specs.Lines.{lines_of}
use Rattle.gp_story.specs.Past.{after_id}
use Rattle.gp_story.proofs.Lines.{one_line}
use Rattle.gp_story.proofs.Recalled.{recalls_next}
use Rattle.gp_story.proofs.telling.lines_along.Goals as goal

-- the id that a place past the end would give
abbrev no_id : EventId
no_id = record { thread = 0; index = 0 }

pub loop-place-init : goal.loop-place-init
loop-place-init c = record {
  told = rw c.new-lines.ensures refl;
  recalls = c.requires;
}

pub loop-place-preserved : goal.loop-place-preserved
loop-place-preserved c = record {
  told = one_line c.args.sharing.now c.args.marked.now c.args.schedule.now c.loop-place.lines c.push.new.self (lines_of c.args.sharing.now c.args.schedule.now c.args.marked.now)
      c.line_of-line.result c.loop-place.place no_id c.loop-place-test.true c.line_of-line.ensures c.in_ok-push.ensures.ok c.loop-place.invariant.told;
  recalls = recalls_next c.args.sharing.now c.args.schedule.now c.loop-place.past c.add.new.self c.loop-place.place no_id c.loop-place-test.true
      (c.in_ok-add.ensures ∙ ap (λ (w : WindowForm). after_id w (get_or c.args.schedule.now c.loop-place.place no_id) c.loop-place.past) c.window.ensures) c.loop-place.invariant.recalls;
}
