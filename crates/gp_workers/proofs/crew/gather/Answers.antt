-- One worker after another is gathered.
use Rattle.std.proofs.Common.{◌≡◌, ◌∙◌, sym, ap, subst, ◌+◌, List, [], ◌∷◌, ◌++◌, length, map, All, append_assoc, arith}
use Rattle.std.proofs.lemmas.List.Elements.{All-head, All-tail}
use Rattle.gp_derivation.specs.declared.record.WorkerRecord.{WorkerRecord}
use Rattle.gp_workers.specs.declared.crew.Worked.{Worked}
use Rattle.gp_workers.specs.Crew.{AreDone}
use Rattle.gp_tickets.specs.Drawn.{HasDrawn}
use Rattle.gp_workers.proofs.crew.gather.Goals as goal

pub loop-worked-init : goal.loop-worked-init
loop-worked-init c =
    let Done : Worked → Type 0 = λ worked. HasDrawn c.args.tickets.now worked.drawn in
    let all : All Done (c.in-Some.first ∷ c.pop_front.new.self.items) = subst (All Done) c.in-Some.ensures.items c.requires.drawn in
    record {
      left = All-tail Done c.in-Some.first c.pop_front.new.self.items all;
      drawn = subst (HasDrawn c.args.tickets.now) (sym c.in_ok-gathered.ensures.drawn) (All-head Done c.in-Some.first c.pop_front.new.self.items all);
      counted = omega (arith, c.in_ok-gathered.ensures.first, ap (λ (ws : List Worked). length ws) c.in-Some.ensures.items);
      records = ap (λ (rs : List WorkerRecord). rs ++ map (λ (one : Worked). one.record) c.pop_front.new.self.items) c.in_ok-gathered.ensures.records
          ∙ sym (ap (λ (ws : List Worked). map (λ (one : Worked). one.record) ws) c.in-Some.ensures.items);
      gathered = λ problem queries budget done.
          let now : AreDone c.args.tickets.now problem queries budget 1 (c.in-Some.first ∷ c.pop_front.new.self.items) = subst (AreDone c.args.tickets.now problem queries budget 1) c.in-Some.ensures.items done in
          let next : 1 + 1 ≡ length c.in_ok-gathered.gathered.records.items + 1 = omega (arith, c.in_ok-gathered.ensures.first) in (
            c.in_ok-gathered.ensures.gathered c.args.tickets.now problem queries budget now.0,
            subst (λ n. AreDone c.args.tickets.now problem queries budget n c.pop_front.new.self.items) next now.1,
          );
    }

pub loop-worked-preserved : goal.loop-worked-preserved
loop-worked-preserved c =
    let rest = c.pop_front-in-loop-worked.new.self.items in
    let worked = c.in-Some-pop_front.worked in
    let Done : Worked → Type 0 = λ one. HasDrawn c.args.tickets.now one.drawn in
    let all : All Done (worked ∷ rest) = subst (All Done) c.in-Some-pop_front.ensures.items c.loop-worked.invariant.left in
    record {
      left = All-tail Done worked rest all;
      drawn = c.in_ok-take.ensures.drawn;
      counted = omega (arith, c.loop-worked.invariant.counted, c.in_ok-take.ensures.one_more, ap (λ (ws : List Worked). length ws) c.in-Some-pop_front.ensures.items);
      records = ap (λ (rs : List WorkerRecord). rs ++ map (λ (one : Worked). one.record) rest) c.in_ok-take.ensures.records
          ∙ append_assoc c.loop-worked.gathered.records.items (worked.record ∷ []) (map (λ (one : Worked). one.record) rest)
          ∙ sym (ap (λ (ws : List Worked). c.loop-worked.gathered.records.items ++ map (λ (one : Worked). one.record) ws) c.in-Some-pop_front.ensures.items)
          ∙ c.loop-worked.invariant.records;
      gathered = λ problem queries budget done.
          let before = c.loop-worked.invariant.gathered problem queries budget done in
          let number = length c.loop-worked.gathered.records.items + 1 in
          let now : AreDone c.args.tickets.now problem queries budget number (worked ∷ rest) = subst (AreDone c.args.tickets.now problem queries budget number) c.in-Some-pop_front.ensures.items before.1 in
          let next : number + 1 ≡ length c.take.new.self.records.items + 1 = omega (arith, c.in_ok-take.ensures.one_more) in (
            c.in_ok-take.ensures.gathered problem queries budget before.0 now.0,
            subst (λ n. AreDone c.args.tickets.now problem queries budget n rest) next now.1,
          );
    }
