use Rattle.gp_base.specs.Counts.{one_more}
use Rattle.gp_outside.specs.declared.sinks.PutFault.{PutFault}
use Rattle.std.specs.Prelude.{Err, List, Ok, Option, Result, ℕ}

-- a sink over a writer: the bytes that the writer holds, where it tells them, and how many calls failed
pub record StdSinkForm : Type 0 where
  pub written : Option (List ℕ)
  pub faults : ℕ

-- the count of faults after a piece was put with that answer: each refusal counts
abbrev pub faults_after : Result (Unit {0}) PutFault → ℕ → ℕ
faults_after (Ok done) faults = faults
faults_after (Err fault) faults = one_more faults
