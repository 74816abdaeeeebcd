use Rattle.std.proofs.Common.{◌≡◌, ◌++◌, ◌≤◌, ◌+◌, length}
use Rattle.std.specs.List.{AllByRecursion}
use Rattle.gp_analysis.specs.Listed.{listed_from, queries_from}
use Rattle.gp_analysis.specs.Question.{ListsAsks}
use Rattle.gp_analysis.proofs.listing.listing_of.Given as goal

abbrev pub invariant-loop-subject : goal.invariant-loop-subject
invariant-loop-subject g l = record {
  listed : l.listed ++ listed_from (g.Q.Question.form l.question) (g.Q.Question.window_in l.encoded) l.number l.left
      ≡ listed_from (g.Q.Question.form l.question) (g.Q.Question.window_in l.encoded) 0 (g.Q.Question.form l.question).subjects;
  queries : l.queries.items ++ queries_from (g.Q.Question.form l.question) (g.Q.Question.window_in l.encoded) l.number l.left
      ≡ queries_from (g.Q.Question.form l.question) (g.Q.Question.window_in l.encoded) 0 (g.Q.Question.form l.question).subjects;
  few : l.number + length l.left ≤ 64;
  asks : AllByRecursion (ListsAsks (g.Q.Question.form l.question) (g.Q.Question.lists l.question)) l.left;
}

abbrev pub decreases-loop-subject : goal.decreases-loop-subject
decreases-loop-subject g l = length l.left
