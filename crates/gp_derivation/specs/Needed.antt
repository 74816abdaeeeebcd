-- Which of some literals a clause needs to pass.
use Rattle.std.specs.Prelude.{ℕ, ◌≡◌, ◌≢◌, ◌+◌, ◌≤◌, List, [], ◌++◌, length, drop, All, Contains}
use Rattle.gp_clause.specs.declared.edge.Edge.{Edge}
use Rattle.gp_clause.specs.declared.kind.Kind.{Kind}
use Rattle.gp_clause.specs.declared.lit.Lit.{Lit}
use Rattle.gp_clause.specs.Clause.{occurrences}
use Rattle.gp_certificate.specs.Bench.{BenchForm}
use Rattle.gp_certificate.specs.ClauseList.{joined}
use Rattle.gp_certificate.specs.Named.{NamesOnceWith}
use Rattle.gp_certificate.specs.Step.{Passes}
use Rattle.gp_derivation.specs.Tight.{left_out}

-- some of the candidates are needed beside what is assumed: with them it passes, and without any one of them it would not
pub record AreNeeded (edges : List Edge) (kinds : List Kind) (clauses : List (List Lit)) (assumed candidates kept : List Lit) : Type 0 where
  pub some : All (Contains candidates) kept
  pub fewer : (variable : ℕ) → occurrences variable kept ≤ occurrences variable candidates
  pub short : length kept ≤ length candidates
  pub passes : Passes edges kinds clauses (assumed ++ kept)
  pub needed : (lit : Lit) → Contains kept lit → Passes edges kinds clauses (left_out lit (assumed ++ kept)) → ⊥

-- what a bench assumes passes with some candidates, and there is a level left for each of them
pub record HasEnough (bench : BenchForm) (candidates : List Lit) : Type 0 where
  pub begun : bench.assumed ≢ []
  pub few : length bench.assumed + length candidates ≤ length bench.kinds + 1
  pub once : NamesOnceWith bench.assumed candidates
  pub passes : Passes bench.edges bench.kinds bench.loaded (joined bench.assumed ++ candidates)

-- those of the candidates that are needed were kept after what was kept before
pub record HasKept (bench : BenchForm) (candidates old new : List Lit) : Type 0 where
  pub more : new ≡ old ++ drop (length old) new
  pub needed : AreNeeded bench.edges bench.kinds bench.loaded (joined bench.assumed) candidates (drop (length old) new)
