-- The worker takes through its own pass.
use Rattle.std.proofs.Common.{refl}
use Rattle.std.specs.Vec.{with_item}
use Rattle.gp_workers.specs.declared.desk.Desk.{Desk}
use Rattle.gp_workers.proofs.DeskOffers.{found_empty, good_taken, may_take, own_inbox, took_from}
use Rattle.gp_workers.proofs.desk.Desk.take.Goals as goal

pub take-requires-clause-pass : goal.take-requires-clause-pass
take-requires-clause-pass g c = own_inbox c.args.self.now c.index-self-self.result c.index_mut.result.now c.requires.desk c.index-self-self.is c.index_mut.ensures.value

pub take-requires-clause-taker : goal.take-requires-clause-taker
take-requires-clause-taker g c = may_take c.args.self.now c.index-self-self.result c.index_mut.result.now c.requires.desk c.index-self-self.is c.index_mut.ensures.value

pub returns-in-Some-clause-desk : goal.returns-in-Some-clause-desk
returns-in-Some-clause-desk g c =
    (took_from c.args.self.now c.index-self-self.result c.index_mut.result.now c.requires.desk c.index-self-self.is c.index_mut.ensures.value
    _ c.take.new.pass c.in-Some.shared (record { problem = refl; inboxes = refl; place = refl }) refl refl refl c.in-Some.ensures.pass c.in-Some.ensures.clause).0

pub returns-in-Some-clause-good : goal.returns-in-Some-clause-good
returns-in-Some-clause-good g c =
    good_taken c.args.self.now c.index-self-self.result c.index_mut.result.now c.requires.desk c.index-self-self.is c.index_mut.ensures.value c.in-Some.shared _ c.in-Some.ensures.clause

pub returns-in-Some-clause-told : goal.returns-in-Some-clause-told
returns-in-Some-clause-told g c =
    let new : Desk = record c.args.self.now { passes = with_item c.args.self.now.passes c.args.self.now.place c.take.new.pass } in
    (took_from c.args.self.now c.index-self-self.result c.index_mut.result.now c.requires.desk c.index-self-self.is c.index_mut.ensures.value
    new c.take.new.pass c.in-Some.shared (record { problem = refl; inboxes = refl; place = refl }) refl refl refl c.in-Some.ensures.pass c.in-Some.ensures.clause).1

pub returns-in-None-clause-desk : goal.returns-in-None-clause-desk
returns-in-None-clause-desk g c =
    (found_empty c.args.self.now c.index-self-self.result c.index_mut.result.now c.requires.desk c.index-self-self.is c.index_mut.ensures.value
    _ c.take.new.pass (record { problem = refl; inboxes = refl; place = refl }) refl c.saturating_add-self.ensures refl c.in-None.ensures.pass c.in-None.ensures.clause).0

pub returns-in-None-clause-told : goal.returns-in-None-clause-told
returns-in-None-clause-told g c =
    let new : Desk = record c.args.self.now { passes = with_item c.args.self.now.passes c.args.self.now.place c.take.new.pass; empty = c.saturating_add-self.result } in
    (found_empty c.args.self.now c.index-self-self.result c.index_mut.result.now c.requires.desk c.index-self-self.is c.index_mut.ensures.value
    new c.take.new.pass (record { problem = refl; inboxes = refl; place = refl }) refl c.saturating_add-self.ensures refl c.in-None.ensures.pass c.in-None.ensures.clause).1
