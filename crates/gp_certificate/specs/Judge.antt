-- What a judge keeps.
use Rattle.std.specs.Prelude.{◌≡◌, [], length, All}
use Rattle.gp_clause.specs.declared.problem.Problem.{Problem}
use Rattle.gp_clause.specs.Clause.{NamesBelow}
use Rattle.gp_certificate.specs.declared.judge.Judge.TheInside.{Inside}

-- the problem of a judge: what lasts when locals change, and the clauses that are loaded
abbrev pub problem_of : Inside → Problem
problem_of judge = record { points = judge.all.points; kinds = judge.all.lasting; edges = judge.all.edges; clauses = judge.all.loaded }

-- between calls the clauses of the problem are loaded on one bench, and none on the other
pub record IsLoaded (judge : Inside) : Type 0 where
  pub empty : judge.hinted.loaded ≡ []
  pub nothing : judge.hinted.assumed ≡ []
  pub none : judge.all.assumed ≡ []
  pub points : judge.hinted.points ≡ judge.all.points
  pub edges : judge.hinted.edges ≡ judge.all.edges
  pub lasting : judge.hinted.lasting ≡ judge.all.lasting
  pub within : All (NamesBelow (length judge.all.lasting)) judge.all.loaded
