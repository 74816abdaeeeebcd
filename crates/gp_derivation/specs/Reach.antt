-- On which entries of a log a step rests.
use Rattle.std.specs.Prelude.{ℕ, ◌≡◌, ◌+◌, ◌<◌, ◌↔◌, List, [], Some, slice_get, AllPairs, Contains}
use Rattle.gp_certificate.specs.declared.step.Step.{Step}
use Rattle.gp_derivation.specs.declared.log.LogEntry.{LogEntry}
use Rattle.gp_derivation.specs.declared.log.Origin.{Origin}
use Rattle.gp_derivation.specs.declared.log.Origin.TheVariants.{Learned, Taken}

-- the hints by which a step rests on others: those of a learned one, and none of a taken one
abbrev pub rests_on : Step → Origin → List ℕ
rests_on step Learned = step.hints
rests_on step (Taken sender certificate) = []

-- a step with some hints rests on an entry where they name it, or where they name one that rests on it
pub data IsReached (bases : ℕ) (log : List LogEntry) (hints : List ℕ) : ℕ → Type 0 where
  direct : (place : ℕ) → Contains hints (bases + place) → IsReached bases log hints place
  through : (place other : ℕ) (entry : LogEntry) → IsReached bases log hints other → slice_get log other ≡ Some entry
      → Contains (rests_on entry.step entry.origin) (bases + place) → IsReached bases log hints place

-- some places are those of the entries on which a step with some hints rests, in the order of the log
pub record AreReached (bases : ℕ) (log : List LogEntry) (hints places : List ℕ) : Type 0 where
  pub rising : AllPairs (λ (a b : ℕ). a < b) places
  pub reached : (place : ℕ) → Contains places place ↔ IsReached bases log hints place
