use Rattle.std.specs.Prelude.{ℕ, ◌≡◌, ◌⊎◌, ◌+◌, ◌<◌, ◌≤◌, List, [], ◌∷◌, ◌++◌, Some, length, map, slice_get, All, Contains}
use Rattle.std.specs.Arc.{arc_value}
use Rattle.gp_clause.specs.declared.kind.Kind.{Kind}
use Rattle.gp_clause.specs.declared.lit.Lit.{Lit}
use Rattle.gp_clause.specs.declared.problem.Problem.{Problem}
use Rattle.gp_clause.specs.Clause.{NamesBelow}
use Rattle.gp_clause.specs.Follows.{Follows}
use Rattle.gp_clause.specs.Problem.{IsValidProblem}
use Rattle.gp_certificate.specs.declared.step.Step.{Step}
use Rattle.gp_certificate.specs.declared.certificate.Certificate.{Certificate}
use Rattle.gp_derivation.specs.declared.log.LogEntry.{LogEntry}
use Rattle.gp_derivation.specs.declared.log.Origin.{Origin}
use Rattle.gp_derivation.specs.declared.log.Origin.TheVariants.{Learned, Taken}
use Rattle.gp_certificate.specs.Step.{Passes, named}
use Rattle.gp_certificate.specs.Certificate.{Proves}

-- an origin is that of a taken entry
abbrev pub IsTaken : Origin → Type 0
IsTaken Learned = ⊥
IsTaken (Taken sender certificate) = Unit {0}

-- an origin is that of a learned entry
abbrev pub IsLearned : Origin → Type 0
IsLearned Learned = Unit {0}
IsLearned (Taken sender certificate) = ⊥

-- the clauses that the hints of a log number: those of the problem and then those of the entries
abbrev pub logged : Problem → List LogEntry → List (List Lit)
logged problem log = problem.clauses ++ map (λ (entry : LogEntry). entry.step.clause) log

-- an entry is pure where it was taken, or where its clause has problem variables only and every entry that its hints
-- name is pure
pub data IsPure (problem : Problem) (log : List LogEntry) : ℕ → Type 0 where
  taken : (place : ℕ) (entry : LogEntry) → slice_get log place ≡ Some entry → IsTaken entry.origin → IsPure problem log place
  learned : (place : ℕ) (entry : LogEntry) → slice_get log place ≡ Some entry → NamesBelow (length problem.kinds) entry.step.clause
      → ((other : ℕ) → Contains entry.step.hints (length problem.clauses + other) → IsPure problem log other) → IsPure problem log place

-- an entry is usable at a place of a turn where it is pure, or stands before that place in the same turn
abbrev pub IsUsable : Problem → List LogEntry → ℕ → ℕ → ℕ → Type 0
IsUsable problem log begins place other = IsPure problem log other ⊎ ((begins ≤ other) × (other < place))

-- a learned step passes at a place of a turn where its hints name clauses of the problem and usable entries before it,
-- and its clause passes with exactly these
pub record LearnedPasses (problem : Problem) (locals : List Kind) (log : List LogEntry) (begins place : ℕ) (step : Step) : Type 0 where
  pub hints : All (λ hint. hint < length problem.clauses + place) step.hints
  pub usable : (other : ℕ) → Contains step.hints (length problem.clauses + other) → IsUsable problem log begins place other
  pub passes : Passes problem.edges (problem.kinds ++ locals) (named (logged problem log) step.hints) step.clause

-- a taken step passes where it has no hints, and its certificate proves its clause
pub record TakenPasses (problem : Problem) (certificate : Certificate) (step : Step) : Type 0 where
  pub bare : step.hints ≡ []
  pub proves : Proves problem certificate step.clause

-- a step passes by its origin: as a learned one, or as a taken one
abbrev pub OriginPasses : Problem → List Kind → List LogEntry → ℕ → ℕ → Step → Origin → Type 0
OriginPasses problem locals log begins place step Learned = LearnedPasses problem locals log begins place step
OriginPasses problem locals log begins place step (Taken sender certificate) = TakenPasses problem (arc_value certificate) step

-- the entry at a place of a log passes in a turn that has these locals and begins there
abbrev pub EntryPasses : Problem → List Kind → List LogEntry → ℕ → ℕ → LogEntry → Type 0
EntryPasses problem locals log begins place entry = OriginPasses problem locals log begins place entry.step entry.origin

-- every entry of a log passes: those from the place where the turn begins in this turn, and each earlier one in a turn
-- of its own
pub record LogPasses (problem : Problem) (locals : List Kind) (log : List LogEntry) (begins : ℕ) : Type 0 where
  pub earlier : (place : ℕ) (entry : LogEntry) → slice_get log place ≡ Some entry → place < begins
      → (own : List Kind) × (began : ℕ) × EntryPasses problem own log began place entry
  pub current : (place : ℕ) (entry : LogEntry) → slice_get log place ≡ Some entry → begins ≤ place → EntryPasses problem locals log begins place entry

-- in a log whose entries pass, the clause of a pure entry follows from the problem
abbrev pub PureFollows : Type 0
PureFollows = (problem : Problem) (locals : List Kind) (log : List LogEntry) (begins : ℕ) → IsValidProblem problem → LogPasses problem locals log begins
    → (place : ℕ) (entry : LogEntry) → slice_get log place ≡ Some entry → IsPure problem log place
    → Follows problem.points problem.edges problem.kinds problem.clauses entry.step.clause

-- a log whose entries pass grows by an entry that passes at its end, and stays so when the next turn begins
pub record LogGrows : Type 0 where
  pub pushed : (problem : Problem) (locals : List Kind) (log : List LogEntry) (begins : ℕ) (added : LogEntry) → begins ≤ length log → LogPasses problem locals log begins
      → EntryPasses problem locals log begins (length log) added → LogPasses problem locals (log ++ added ∷ []) begins
  pub next_turn : (problem : Problem) (locals next : List Kind) (log : List LogEntry) (begins : ℕ) → LogPasses problem locals log begins → LogPasses problem next log (length log)
