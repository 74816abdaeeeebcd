-- The numbers of the steps of a cone, and hints by them.
use Rattle.std.specs.Prelude.{ℕ, ◌≡◌, ◌+◌, ◌-◌, ◌<◌, ◌^◌, suc, zero, Bool, true, false, nat_lt, if◌then◌else◌, List, [], ◌∷◌, Option, None, Some, length, map, slice_get, slice_index_or, ◌≤◌, ◌==◌, All}
use Rattle.std.specs.List.{sum_by, position_or_len}
use Rattle.std.specs.Arc.{arc_value}
use Rattle.gp_certificate.specs.declared.step.Step.{Step}
use Rattle.gp_derivation.specs.declared.log.LogEntry.{LogEntry}
use Rattle.gp_derivation.specs.declared.log.Origin.{Origin}
use Rattle.gp_derivation.specs.declared.log.Origin.TheVariants.{Learned, Taken}

-- how many steps an origin stands for: one, or those of its certificate
abbrev pub steps_by : Origin → ℕ
steps_by Learned = 1
steps_by (Taken sender certificate) = length (arc_value certificate).steps

-- how many steps an entry stands for
abbrev pub size_of : LogEntry → ℕ
size_of entry = steps_by entry.origin

-- the hints of an entry name base clauses and entries before it, and a certificate has a step, and hints that name base
-- clauses and steps before it
abbrev pub NamesEarlier : ℕ → ℕ → Step → Origin → Type 0
NamesEarlier bases place step Learned = All (λ hint. hint < bases + place) step.hints
NamesEarlier bases place step (Taken sender certificate) = (0 < length (arc_value certificate).steps)
    × ((k : ℕ) (own : Step) → slice_get (arc_value certificate).steps k ≡ Some own → All (λ hint. hint < bases + k) own.hints)

-- each entry of a log names what comes before it
abbrev pub AllNameEarlier : ℕ → List LogEntry → Type 0
AllNameEarlier bases log = (place : ℕ) (entry : LogEntry) → slice_get log place ≡ Some entry → NamesEarlier bases place entry.step entry.origin

-- a cone can be numbered: all hints name base clauses or what comes before, and all numbers are below 2^32
pub record CanBeNumbered (bases : ℕ) (log : List LogEntry) (last : Step) : Type 0 where
  pub entries : AllNameEarlier bases log
  pub hints : All (λ hint. hint < bases + length log) last.hints
  pub few : bases + sum_by size_of log + 1 < 2 ^ 32

-- how many steps an entry gives, where it is kept
abbrev pub counted : Bool → Option LogEntry → ℕ
counted false entry = 0
counted true None = 0
counted true (Some entry) = size_of entry

-- how many steps the kept ones among the first entries of a log give
abbrev pub steps_before : (ℕ → Bool) → List LogEntry → ℕ → ℕ
steps_before kept log zero = 0
steps_before kept log (suc place) = steps_before kept log place + counted (kept place) (slice_get log place)

-- the number of the last step that a kept entry gives
abbrev pub number_of : ℕ → (ℕ → Bool) → List LogEntry → ℕ → ℕ
number_of bases kept log place = (bases + steps_before kept log (suc place)) - 1

-- the number that stands beside a place, in the order of some places
abbrev pub number_beside : List ℕ → List ℕ → ℕ → ℕ
number_beside places numbers place = slice_index_or numbers (position_or_len (λ other. other == place) places) 0

-- a place is among those that have a number beside them
abbrev pub HasNumber : List ℕ → List ℕ → ℕ → Type 0
HasNumber places numbers place = (k : ℕ) × (k < length places) × (k < length numbers) × (slice_index_or places k 0 ≡ place)

-- a hint names a base clause, or an entry whose place has a number
abbrev pub IsNumbered : ℕ → List ℕ → List ℕ → ℕ → Type 0
IsNumbered bases places numbers hint = bases ≤ hint → HasNumber places numbers (hint - bases)

-- the hints of a learned entry are numbered, and those of a certificate name base clauses and steps before them
abbrev pub IsNumberable : ℕ → List ℕ → List ℕ → Step → Origin → Type 0
IsNumberable bases places numbers step Learned = All (IsNumbered bases places numbers) step.hints
IsNumberable bases places numbers step (Taken sender certificate) = (k : ℕ) (own : Step) → slice_get (arc_value certificate).steps k ≡ Some own → All (λ hint. hint < bases + k) own.hints

-- a hint to a base clause stays, and one to an entry becomes one to its number
abbrev pub renumbered : ℕ → (ℕ → ℕ) → ℕ → ℕ
renumbered bases number hint = if nat_lt hint bases then hint else number (hint - bases)

-- a hint to a base clause stays, and one to a step becomes one to the step that comes so many later
abbrev pub moved : ℕ → ℕ → ℕ → ℕ
moved bases by hint = if nat_lt hint bases then hint else (hint + by)

-- a step with each of its hints replaced
abbrev pub with_hints : (ℕ → ℕ) → Step → Step
with_hints replaced step = record { clause = step.clause; hints = map replaced step.hints }

-- some hints, or where there are none the one to the first base clause, if there is one
abbrev pub based : List ℕ → ℕ → List ℕ
based [] zero = []
based [] (suc others) = 0 ∷ []
based (hint ∷ hints) bases = hint ∷ hints

-- a step that rests on no clause with the one hint 0, where there is a base clause; any other step as it is
abbrev pub with_base : ℕ → Step → Step
with_base bases step = record { clause = step.clause; hints = based step.hints bases }
