-- One window more is drawn and recorded.
use Rattle.std.proofs.Common.{◌≡◌, ◌∙◌, ap, ◌+◌, length}
use Rattle.std.proofs.lemmas.List.{length_push}
use Rattle.gp_tickets.specs.declared.hand.Hand.{Hand}
use Rattle.gp_tickets.specs.Hand.{drew}
use Rattle.gp_tickets.specs.Tickets.{hand_of}
use Rattle.gp_tickets.specs.TicketLaws.{fewer_drawn, still_single}
use Rattle.gp_analysis.proofs.Drawing.{fewer_left, next_drawn}
use Rattle.gp_analysis.proofs.drawn.record_all.Goals as goal

pub loop-number-preserved : goal.loop-number-preserved
loop-number-preserved g c =
    let task = c.args.task.now in
    let tickets = c.args.tickets.now in
    let old = c.loop-number.drawer in
    let number = c.in-Some.number in
    let single = c.loop-number.invariant.single in
    let hands : hand_of c.draw.new.drawer ≡ drew (hand_of old) number = (c.in-Some.ensures.first single.told).1 in
    let next =
    next_drawn (g.Q.Question.form task.question.now) task.telling c.args.recording.now task.workers task.budget number (hand_of old).drawn (hand_of c.draw.new.drawer).drawn c.loop-number.made.items c.push.new.self.items c.window_number-k.result
    c.in_ok-value.value c.window_number-k.ensures c.in_ok-value.ensures.records c.loop-number.invariant.numbers c.loop-number.invariant.records
    (ap (λ (h : Hand). h.drawn) hands) c.in-Ok.ensures.items in
    record {
      ahead = c.in_ok-value.ensures.ahead;
      order = c.in_ok-value.ensures.order;
      single = still_single tickets old c.draw.new.drawer number single c.in-Some.ensures.drawer hands;
      numbers = next.0;
      records = next.1;
    }

pub loop-number-smaller : goal.loop-number-smaller
loop-number-smaller g c =
    let tickets = c.args.tickets.now in
    let old = c.loop-number.drawer in
    let hands : hand_of c.draw.new.drawer ≡ drew (hand_of old) c.in-Some.number = (c.in-Some.ensures.first c.loop-number.invariant.single.told).1 in
    let more : length (hand_of c.draw.new.drawer).drawn ≡ length (hand_of old).drawn + 1 = ap (λ (h : Hand). length h.drawn) hands ∙ length_push (hand_of old).drawn c.in-Some.number in
    let fewer = fewer_drawn tickets old c.draw.new.drawer c.in-Some.number c.in-Some.ensures.drawer hands in
    fewer_left tickets.count (length (hand_of old).drawn) (length (hand_of c.draw.new.drawer).drawn) more fewer
