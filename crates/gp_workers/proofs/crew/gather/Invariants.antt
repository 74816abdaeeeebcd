use Rattle.std.proofs.Common.{◌≡◌, ◌+◌, ◌++◌, ℕ, List, All, length, map}
use Rattle.gp_clause.specs.declared.problem.Problem.{Problem}
use Rattle.gp_clause.specs.declared.problem.Query.{Query}
use Rattle.gp_workers.specs.declared.crew.Worked.{Worked}
use Rattle.gp_workers.specs.Crew.{AreDone, IsGathered}
use Rattle.gp_tickets.specs.Drawn.{HasDrawn}
use Rattle.gp_workers.proofs.crew.gather.Given as goal

abbrev pub decreases-loop-worked : goal.decreases-loop-worked
decreases-loop-worked l = length l.crew.items

abbrev pub invariant-loop-worked : goal.invariant-loop-worked
invariant-loop-worked l = record {
  left : All (λ worked. HasDrawn l.tickets worked.drawn) l.crew.items;
  drawn : HasDrawn l.tickets l.gathered.drawn;
  counted : length l.gathered.records.items + length l.crew.items ≡ length l.fn.crew.items;
  records : l.gathered.records.items ++ map (λ (worked : Worked). worked.record) l.crew.items ≡ map (λ (worked : Worked). worked.record) l.fn.crew.items;
  gathered : (problem : Problem) (queries : List Query) (budget : ℕ) → AreDone l.tickets problem queries budget 1 l.fn.crew.items
      → IsGathered l.tickets problem queries budget l.gathered × AreDone l.tickets problem queries budget (length l.gathered.records.items + 1) l.crew.items;
}
