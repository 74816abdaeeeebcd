use Rattle.std.proofs.Common.{length}
use Rattle.gp_analysis.proofs.FirstWalk.{SubjectsShared}
use Rattle.gp_analysis.proofs.sharing.share_all.Given as goal

abbrev pub invariant-loop-first : goal.invariant-loop-first
invariant-loop-first g l =
    SubjectsShared l.source.clauses l.source.gained l.source.records.now l.fn.listed l.fn.answers l.initial.sharing l.left l.answers l.sharing

abbrev pub decreases-loop-first : goal.decreases-loop-first
decreases-loop-first g l = length l.left
