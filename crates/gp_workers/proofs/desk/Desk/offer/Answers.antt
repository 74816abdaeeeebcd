-- An offer is kept, and pushed to all others where they have room.
use Rattle.std.proofs.Common.{length, arith}
use Rattle.gp_workers.proofs.DeskOffers.{copies_last, desk_same, note_kept, offer_pushed, pushed_to_none}
use Rattle.gp_workers.proofs.desk.Desk.offer.Goals as goal

pub returns-then-len-ge-MOST_PUSHED-clause-desk : goal.returns-then-len-ge-MOST_PUSHED-clause-desk
returns-then-len-ge-MOST_PUSHED-clause-desk g c =
    (note_kept c.note.result c.args.self.now c.note.new.self c.args.entry c.args.shared.clause c.requires.desk (omega (arith, c.len.ensures, c.if-len-ge-MOST_PUSHED.true)) c.note.ensures.rest c.note.ensures.ok c.note.ensures.err).0

pub returns-then-len-ge-MOST_PUSHED-clause-ok : goal.returns-then-len-ge-MOST_PUSHED-clause-ok
returns-then-len-ge-MOST_PUSHED-clause-ok g c =
    (note_kept c.note.result c.args.self.now c.note.new.self c.args.entry c.args.shared.clause c.requires.desk (omega (arith, c.len.ensures, c.if-len-ge-MOST_PUSHED.true)) c.note.ensures.rest c.note.ensures.ok c.note.ensures.err).1

pub returns-then-len-ge-MOST_PUSHED-clause-err : goal.returns-then-len-ge-MOST_PUSHED-clause-err
returns-then-len-ge-MOST_PUSHED-clause-err g c =
    (note_kept c.note.result c.args.self.now c.note.new.self c.args.entry c.args.shared.clause c.requires.desk (omega (arith, c.len.ensures, c.if-len-ge-MOST_PUSHED.true)) c.note.ensures.rest c.note.ensures.ok c.note.ensures.err).2

pub push_all-requires-clause-none : goal.push_all-requires-clause-none
push_all-requires-clause-none g c =
    pushed_to_none c.args.self.now c.note-2.new.self c.args.entry c.args.shared c.requires.desk (omega (arith, c.len.ensures, c.if-len-ge-MOST_PUSHED.false)) c.in_ok-note.ensures.rest c.in_ok-note.ensures.ok

pub push_all-requires-clause-copies : goal.push_all-requires-clause-copies
push_all-requires-clause-copies g c =
    copies_last c.args.self.now c.note-2.new.self c.args.entry c.args.shared c.requires.desk (omega (arith, c.len.ensures, c.if-len-ge-MOST_PUSHED.false)) c.in_ok-note.ensures.rest c.in_ok-note.ensures.ok
    c.in_ok-copies.copies.items c.requires.good c.requires.sender c.in_ok-copies.ensures.copies

pub returns-in_err-note-clause-desk : goal.returns-in_err-note-clause-desk
returns-in_err-note-clause-desk g c = desk_same c.args.self.now c.note-2.new.self c.requires.desk c.in_err-note.ensures.rest c.in_err-note.ensures.err

pub returns-clause-desk : goal.returns-clause-desk
returns-clause-desk g c =
    (offer_pushed c.args.self.now c.note-2.new.self c.args.entry c.args.shared c.requires.desk (omega (arith, c.len.ensures, c.if-len-ge-MOST_PUSHED.false)) c.in_ok-note.ensures.rest c.in_ok-note.ensures.ok
    c.push_all.new.self (length c.note-2.new.self.inboxes.now) (λ i. length c.note-2.new.self.inboxes.now) c.push_all.ensures.same c.push_all.ensures.outgoing c.push_all.ensures.empty c.push_all.ensures.taken c.push_all.ensures.all).0

pub returns-clause-ok : goal.returns-clause-ok
returns-clause-ok g c =
    (offer_pushed c.args.self.now c.note-2.new.self c.args.entry c.args.shared c.requires.desk (omega (arith, c.len.ensures, c.if-len-ge-MOST_PUSHED.false)) c.in_ok-note.ensures.rest c.in_ok-note.ensures.ok
    c.push_all.new.self (length c.note-2.new.self.inboxes.now) (λ i. length c.note-2.new.self.inboxes.now) c.push_all.ensures.same c.push_all.ensures.outgoing c.push_all.ensures.empty c.push_all.ensures.taken c.push_all.ensures.all).1
