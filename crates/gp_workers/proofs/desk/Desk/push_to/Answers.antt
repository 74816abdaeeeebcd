-- The last offer goes to one worker more.
use Rattle.std.proofs.Common.{refl, sym, ap}
use Rattle.gp_workers.specs.Desk.{taken_by}
use Rattle.gp_workers.proofs.DeskPasses.{got_other}
use Rattle.gp_workers.proofs.DeskPushes.{good_there, its_inbox, may_push, pushed_there, room_there}
use Rattle.gp_workers.proofs.desk.Desk.push_to.Goals as goal

pub offer-requires-clause-pass : goal.offer-requires-clause-pass
offer-requires-clause-pass g c =
    its_inbox c.args.self.now c.args.taker c.index-self-taker.result c.index_mut.result.now c.args.copy c.requires.other.0 c.requires.other.1 c.requires.below c.index-self-taker.is c.index_mut.ensures.value c.requires.copy

pub offer-requires-clause-good : goal.offer-requires-clause-good
offer-requires-clause-good g c =
    good_there c.args.self.now c.args.taker c.index-self-taker.result c.index_mut.result.now c.args.copy c.requires.other.0 c.requires.other.1 c.requires.below c.index-self-taker.is c.index_mut.ensures.value c.requires.copy

pub offer-requires-clause-sender : goal.offer-requires-clause-sender
offer-requires-clause-sender g c =
    may_push c.args.self.now c.args.taker c.index-self-taker.result c.index_mut.result.now c.args.copy c.requires.other.0 c.requires.other.1 c.requires.below c.index-self-taker.is c.index_mut.ensures.value c.requires.copy

pub offer-requires-clause-room : goal.offer-requires-clause-room
offer-requires-clause-room g c =
    room_there c.args.self.now c.args.taker c.index-self-taker.result c.index_mut.result.now c.args.copy c.requires.other.0 c.requires.other.1 c.requires.below c.index-self-taker.is c.index_mut.ensures.value c.requires.copy

pub returns-clause-next : goal.returns-clause-next
returns-clause-next g c =
    pushed_there c.args.self.now c.args.taker c.index-self-taker.result c.index_mut.result.now c.args.copy c.requires.other.0 c.requires.other.1 c.requires.below c.index-self-taker.is c.index_mut.ensures.value c.requires.copy
    _ c.offer.new.pass refl refl refl refl refl c.offer.ensures.pass c.offer.ensures.pushed

pub returns-clause-taken : goal.returns-clause-taken
returns-clause-taken g c = ap taken_by (got_other c.args.self.now.passes.items c.args.taker c.args.self.now.place c.offer.new.pass (λ same. c.requires.other.1 (sym same)))
