-- Laws of a log that grows.
use Rattle.std.proofs.Common.{ℕ, ◌+◌, ◌<◌, List, ◌++◌, length, All}
use Rattle.gp_clause.specs.declared.kind.Kind.{Kind}
use Rattle.gp_clause.specs.declared.problem.Problem.{Problem}
use Rattle.gp_base.specs.ListLaws.{got_front}
use Rattle.gp_certificate.specs.declared.step.Step.{Step}
use Rattle.gp_derivation.specs.declared.log.LogEntry.{LogEntry}
use Rattle.gp_derivation.specs.declared.log.Origin.{Origin}
use Rattle.gp_derivation.specs.declared.log.Origin.TheVariants.{Learned, Taken}
use Rattle.gp_derivation.specs.Log.{IsLearned, IsPure, OriginPasses}
use Rattle.gp_derivation.specs.Log.IsPure.{taken, learned}

-- a pure entry stays pure
pub pure_longer : (problem : Problem) (log more : List LogEntry) (place : ℕ) → IsPure problem log place → IsPure problem (log ++ more) place
pure_longer problem log more place (taken p own got took) = taken p own (got_front log more p own got) took
pure_longer problem log more place (learned p own got below others) = learned p own (got_front log more p own got) below (λ other by. pure_longer problem log more other (others other by))

-- the hints of a learned entry name what comes before it
pub hints_before : (problem : Problem) (locals : List Kind) (log : List LogEntry) (begins place : ℕ) (step : Step) (origin : Origin) → IsLearned origin → OriginPasses problem locals log begins place step origin
    → All (λ hint. hint < length problem.clauses + place) step.hints
hints_before problem locals log begins place step Learned is passes = passes.hints
hints_before problem locals log begins place step (Taken sender certificate) wrong passes = absurd wrong
