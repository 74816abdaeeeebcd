-- What an event adds to the notes.
use Rattle.std.proofs.Common.{◌∙◌, ◌++◌, ◌∷◌, [], List, ap, sym, subst}
use Rattle.std.specs.Prelude.{if◌then◌else◌}
use Rattle.std.proofs.lemmas.Result.{on_ok_weaker}
use Rattle.gp_window.specs.declared.schedule.EventId.{EventId}
use Rattle.gp_stuck.specs.Noted.{NotesMore}
use Rattle.gp_stuck.proofs.Notes.{empty_holds, holds_none, holds_some, takes_none}
use Rattle.gp_stuck.proofs.noting.note_event.Goals as goal

pub returns-then-not-takes_lock : goal.returns-then-not-takes_lock
returns-then-not-takes_lock c = takes_none c.args.window.now c.args.id c.args.starts.now c.args.holders.now (sym c.if-not-takes_lock.ensures)

pub returns-then-is_empty : goal.returns-then-is_empty
returns-then-is_empty c =
    holds_none c.args.window.now c.args.id c.args.starts.now c.args.holders.now (sym c.if-not-takes_lock.ensures)
    (λ lock. sym (c.requires lock) ∙ empty_holds c.args.held.now lock (sym c.if-is_empty.ensures))

pub returns : goal.returns
returns c = on_ok_weaker c.note_holds.result (λ holds.
    subst (λ (starts : List EventId). NotesMore c.args.window.now (c.args.id ∷ []) c.args.starts.now c.args.holders.now starts c.note_holds.new.holders)
    (sym (c.in_ok-keep_id.ensures ∙ ap (λ may. c.args.starts.now ++ (if may then c.args.id ∷ [] else [])) c.may_be_next-may.ensures))
    (holds_some c.args.window.now c.args.id c.args.starts.now c.args.holders.now c.note_holds.new.holders c.args.held.now (sym c.if-not-takes_lock.ensures) c.requires holds))
    c.note_holds.ensures
