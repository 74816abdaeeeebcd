-- One subject more is shared, until all are.
use Rattle.std.proofs.Common.{refl}
use Rattle.gp_analysis.proofs.FirstWalk.{subject_shared, subjects_shared}
use Rattle.gp_analysis.proofs.sharing.share_all.Goals as goal

pub loop-first-init : goal.loop-first-init
loop-first-init g c = record { shared = refl; can = c.requires.answers; room = c.requires.room }

pub share_listed-requires-clause-answers : goal.share_listed-requires-clause-answers
share_listed-requires-clause-answers g c = c.loop-first.invariant.can

pub share_listed-requires-clause-room : goal.share_listed-requires-clause-room
share_listed-requires-clause-room g c = c.loop-first.invariant.room

pub loop-first-preserved : goal.loop-first-preserved
loop-first-preserved g c =
    let source = c.args.source.now in
    subject_shared source.clauses source.gained source.records.now c.args.listed.now c.args.answers.now c.args.sharing.now c.in-Some.first.now c.in-Some.more.now c.loop-first.left.now c.loop-first.answers.now c.in_ok-answers.answers.now
    c.loop-first.sharing c.share_listed.new.sharing c.in-Some.ensures.cases.0 c.in_ok-answers.ensures.shared c.in_ok-answers.ensures.left c.loop-first.invariant

pub returns : goal.returns
returns g c =
    let source = c.args.source.now in
    subjects_shared source.clauses source.gained source.records.now c.args.listed.now c.args.answers.now c.args.sharing.now c.loop-first.left.now c.loop-first.answers.now c.loop-first.sharing c.in_default.ensures.cases c.loop-first.invariant
