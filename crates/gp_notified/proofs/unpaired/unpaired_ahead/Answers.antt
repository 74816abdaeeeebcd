-- One record after another is looked at, until none is left.
use Rattle.gp_notified.proofs.Gathered.{all_found, first_of}
use Rattle.gp_notified.proofs.unpaired.unpaired_ahead.Goals as goal

pub add_unpaired-requires-clause-own : goal.add_unpaired-requires-clause-own
add_unpaired-requires-clause-own c =
    (first_of c.args.recording.now c.loop-own.unpaired c.loop-own.left.now c.in-Some.own.now c.in-Some.more.now c.in-Some.ensures.cases.0 c.loop-own.invariant.way).first

pub loop-own-preserved : goal.loop-own-preserved
loop-own-preserved c =
    let first = first_of c.args.recording.now c.loop-own.unpaired c.loop-own.left.now c.in-Some.own.now c.in-Some.more.now c.in-Some.ensures.cases.0 c.loop-own.invariant.way in
    record { ahead = c.in_ok-add_unpaired.ensures.ahead; way = first.way c.add_unpaired.new.unpaired c.in_ok-add_unpaired.ensures.added }

pub returns : goal.returns
returns c = all_found c.args.recording.now c.loop-own.unpaired c.loop-own.left.now c.in_default.ensures.cases c.loop-own.invariant.way
