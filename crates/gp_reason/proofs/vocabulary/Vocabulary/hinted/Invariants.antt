use Rattle.std.proofs.Common.{◌≡◌, ◌≤◌, ◌++◌, length, take}
use Rattle.gp_reason.specs.Cycles.{hinted}
use Rattle.gp_reason.proofs.vocabulary.Vocabulary.hinted.Given as goal

abbrev pub invariant-loop-place : goal.invariant-loop-place
invariant-loop-place l = record {
  within : l.place ≤ length l.hints;
  made : l.clauses ++ hinted l.self.clauses l.number (take l.place l.hints) ≡ hinted l.self.clauses l.number l.hints;
}
