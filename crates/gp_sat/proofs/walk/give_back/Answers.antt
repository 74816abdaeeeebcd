use Rattle.std.proofs.Common.{◌≡◌, sym, ◌∙◌, ap, subst, ◌<◌, length, arith}
use Rattle.gp_sat.specs.WatchesForm.{WatchesForm}
use Rattle.gp_sat.specs.Stepping.{IsReturning, work}
use Rattle.gp_sat.proofs.Relinking.{taken, at_front}
use Rattle.gp_sat.proofs.Stepping.{first_within, first_slot, slot_within, IsFirst, given_back}
use Rattle.gp_sat.proofs.Walks.{return_ends}
use Rattle.gp_sat.proofs.walk.give_back.Goals as goal

pub take-slot-requires-clause-within : goal.take-slot-requires-clause-within
take-slot-requires-clause-within c = first_within c.args.kernel.now c.loop-fallen.watches c.args.fallen c.loop-fallen.invariant.returning.lists c.loop-fallen.invariant.returning.linked

pub link-requires-clause-within : goal.link-requires-clause-within
link-requires-clause-within c =
    let first : IsFirst c.args.kernel.now c.loop-fallen.watches c.args.fallen c.loop-fallen.invariant.returning.lists c.take-slot.result =
    first_slot c.args.kernel.now c.loop-fallen.watches c.args.fallen c.loop-fallen.invariant.returning.lists c.take-slot.result c.loop-fallen.invariant.returning.linked c.take-slot.ensures.first in
    omega (arith, slot_within c.args.kernel.now c.loop-fallen.watches c.args.fallen c.loop-fallen.invariant.returning.lists c.take-slot.result c.loop-fallen.invariant.returning.linked first.member, ap (λ (l : WatchesForm). length l.slots) c.take-slot.ensures.taken)

pub loop-fallen-smaller : goal.loop-fallen-smaller
loop-fallen-smaller c =
    let linked : c.link.new.self ≡ at_front (taken c.loop-fallen.watches c.take-slot.result) c.take-slot.result c.args.fallen = c.link.ensures ∙ ap (λ (l : WatchesForm). at_front l c.take-slot.result c.args.fallen) c.take-slot.ensures.taken in
    subst (λ (l : WatchesForm). work l < work c.loop-fallen.watches) (sym linked)
    (given_back c.args.kernel.now c.loop-fallen.watches c.args.fallen c.take-slot.result c.loop-fallen.invariant.returning.lists c.loop-fallen.invariant.returning.named c.loop-fallen.invariant.returning.sound c.loop-fallen.invariant.returning.linked c.loop-fallen.invariant.returning.watched c.take-slot.ensures.first).1

pub loop-fallen-preserved : goal.loop-fallen-preserved
loop-fallen-preserved c =
    let linked : c.link.new.self ≡ at_front (taken c.loop-fallen.watches c.take-slot.result) c.take-slot.result c.args.fallen = c.link.ensures ∙ ap (λ (l : WatchesForm). at_front l c.take-slot.result c.args.fallen) c.take-slot.ensures.taken in
    record {
      returning = subst (λ (l : WatchesForm). IsReturning c.args.kernel.now l c.args.fallen) (sym linked)
          (given_back c.args.kernel.now c.loop-fallen.watches c.args.fallen c.take-slot.result c.loop-fallen.invariant.returning.lists c.loop-fallen.invariant.returning.named c.loop-fallen.invariant.returning.sound c.loop-fallen.invariant.returning.linked c.loop-fallen.invariant.returning.watched c.take-slot.ensures.first).0;
      kept = record {
        shorts = ap (λ (l : WatchesForm). l.shorts) linked ∙ c.loop-fallen.invariant.kept.shorts;
        looked = ap (λ (l : WatchesForm). l.looked) linked ∙ c.loop-fallen.invariant.kept.looked;
      };
    }

pub returns-clause-idle : goal.returns-clause-idle
returns-clause-idle c = return_ends c.args.kernel.now c.loop-fallen.watches c.args.fallen (c.has_work.ensures.no c.loop-fallen-test.false) c.loop-fallen.invariant.returning
