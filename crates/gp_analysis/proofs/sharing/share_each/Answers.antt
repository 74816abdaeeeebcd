-- One ask more is shared, until all are.
use Rattle.std.proofs.Common.{refl}
use Rattle.gp_analysis.proofs.FirstWalk.{all_shared, one_shared}
use Rattle.gp_analysis.proofs.sharing.share_each.Goals as goal

pub loop-first-init : goal.loop-first-init
loop-first-init g c = record { shared = refl; left = refl; can = c.requires.answers; room = c.requires.room }

pub share_ask-requires-clause-answers : goal.share_ask-requires-clause-answers
share_ask-requires-clause-answers g c = c.loop-first.invariant.can

pub share_ask-requires-clause-room : goal.share_ask-requires-clause-room
share_ask-requires-clause-room g c = c.loop-first.invariant.room

pub loop-first-preserved : goal.loop-first-preserved
loop-first-preserved g c =
    let source = c.args.source.now in
    one_shared source.clauses source.gained source.records.now c.args.asked.now c.args.answers.now c.args.sharing.now c.in-Some.first.now c.in-Some.more.now c.loop-first.left.now c.loop-first.answers.now c.in_ok-answers.answers.now
    c.loop-first.sharing c.share_ask.new.sharing c.in-Some.ensures.cases.0 c.in_ok-answers.ensures.shared c.in_ok-answers.ensures.left c.loop-first.invariant

pub returns-clause-shared : goal.returns-clause-shared
returns-clause-shared g c =
    let source = c.args.source.now in
    let all = all_shared source.clauses source.gained source.records.now c.args.asked.now c.args.answers.now c.args.sharing.now c.loop-first.left.now c.loop-first.answers.now c.loop-first.sharing c.in_default.ensures.cases c.loop-first.invariant in
    all.0

pub returns-clause-left : goal.returns-clause-left
returns-clause-left g c =
    let source = c.args.source.now in
    let all = all_shared source.clauses source.gained source.records.now c.args.asked.now c.args.answers.now c.args.sharing.now c.loop-first.left.now c.loop-first.answers.now c.loop-first.sharing c.in_default.ensures.cases c.loop-first.invariant in
    all.1
