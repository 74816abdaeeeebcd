-- The cone of a step: the steps on which it rests, each once, in the order of the log, and the step itself at the end.
use Rattle.std.specs.Prelude.{ℕ, ◌≡◌, ◌↔◌, suc, zero, Bool, true, false, ◌||◌, if◌then◌else◌, IsTrue, List, [], ◌∷◌, ◌++◌, Option, None, Some, length, map, nat_eq, slice_get, ◌+◌, ◌-◌, ◌<◌, All}
use Rattle.std.specs.List.{list_any}
use Rattle.std.specs.Arc.{arc_value}
use Rattle.gp_clause.specs.declared.problem.Problem.{Problem}
use Rattle.gp_clause.specs.declared.problem.Query.{Query}
use Rattle.gp_clause.specs.Problem.{IsValidProblem}
use Rattle.gp_certificate.specs.declared.step.Step.{Step}
use Rattle.gp_certificate.specs.declared.certificate.Certificate.{Certificate}
use Rattle.gp_derivation.specs.declared.log.LogEntry.{LogEntry}
use Rattle.gp_derivation.specs.declared.log.Origin.{Origin}
use Rattle.gp_derivation.specs.declared.log.Origin.TheVariants.{Learned, Taken}
use Rattle.gp_certificate.specs.Certificate.{Checks, Refutes}
use Rattle.gp_derivation.specs.Log.{LearnedPasses, LogPasses}
use Rattle.gp_derivation.specs.Numbering.{AllNameEarlier, CanBeNumbered, steps_before, number_of, renumbered, moved, with_base, with_hints}
use Rattle.gp_derivation.specs.Reach.{IsReached, rests_on}

-- a learned step in a cone: its hints to entries become hints to their numbers, and where it has none it gets the one hint 0,
-- if there is a base clause
abbrev pub cone_step : ℕ → (ℕ → ℕ) → Step → Step
cone_step bases number step = with_hints (renumbered bases number) (with_base bases step)

-- the steps that an entry gives after so many others: a learned one itself, and a taken one those of its certificate
abbrev pub steps_given : ℕ → (ℕ → ℕ) → ℕ → Step → Origin → List Step
steps_given bases number before step Learned = cone_step bases number step ∷ []
steps_given bases number before step (Taken sender certificate) = map (with_hints (moved bases before)) (arc_value certificate).steps

-- the steps that an entry gives, where it is kept
abbrev pub kept_steps : ℕ → (ℕ → ℕ) → ℕ → Bool → Option LogEntry → List Step
kept_steps bases number before false entry = []
kept_steps bases number before true None = []
kept_steps bases number before true (Some entry) = steps_given bases number before entry.step entry.origin

-- the steps that the kept ones among the first entries of a log give, in order
abbrev pub cone_steps : ℕ → (ℕ → Bool) → List LogEntry → ℕ → List Step
cone_steps bases kept log zero = []
cone_steps bases kept log (suc place) = cone_steps bases kept log place ++ kept_steps bases (number_of bases kept log) (steps_before kept log place) (kept place) (slice_get log place)

-- a certificate is the cone of a step: the steps of exactly the entries on which it rests, and the step itself at the end
pub record IsCone (bases : ℕ) (log : List LogEntry) (last : Step) (certificate : Certificate) : Type 0 where
  pub kept : ℕ → Bool
  pub reached : (place : ℕ) → IsTrue (kept place) ↔ IsReached bases log last.hints place
  pub steps : certificate.steps ≡ cone_steps bases kept log (length log) ++ cone_step bases (number_of bases kept log) last ∷ []

-- the hints by which an entry rests on others, if there is one
abbrev pub hints_of : Option LogEntry → List ℕ
hints_of None = []
hints_of (Some entry) = rests_on entry.step entry.origin

-- those of the entry at a place
abbrev pub hints_at : List LogEntry → ℕ → List ℕ
hints_at log place = hints_of (slice_get log place)

-- some hints name an entry, or those of one of some entries do
abbrev pub are_naming : ℕ → List LogEntry → List ℕ → List ℕ → ℕ → Bool
are_naming bases log hints later place =
    list_any (nat_eq (bases + place)) hints || list_any (λ other. list_any (nat_eq (bases + place)) (hints_at log other)) later

-- the places of those of so many last entries on which a step with some hints rests, in the order of the log
abbrev pub needed_among : ℕ → List LogEntry → List ℕ → ℕ → List ℕ
needed_among bases log hints zero = []
needed_among bases log hints (suc count) =
    let later = needed_among bases log hints count in
    let place = length log - suc count in
    if are_naming bases log hints later place then place ∷ later else later

-- whether a step with some hints rests on the entry at a place
abbrev pub is_needed : ℕ → List LogEntry → List ℕ → ℕ → Bool
is_needed bases log hints place = list_any (nat_eq place) (needed_among bases log hints (length log))

-- the cone of a step
abbrev pub cone_of : ℕ → List LogEntry → Step → Certificate
cone_of bases log last =
    let kept = is_needed bases log last.hints in
    record { steps = cone_steps bases kept log (length log) ++ cone_step bases (number_of bases kept log) last ∷ [] }

-- a step that can be numbered has a cone
abbrev pub ConeIsThere : Type 0
ConeIsThere = (bases : ℕ) (log : List LogEntry) (last : Step) → CanBeNumbered bases log last → IsCone bases log last (cone_of bases log last)

-- the cone of a step that can be numbered stays the same when the log grows at its end
abbrev pub ConeOfStays : Type 0
ConeOfStays = (bases : ℕ) (log more : List LogEntry) (last : Step) → CanBeNumbered bases log last → cone_of bases (log ++ more) last ≡ cone_of bases log last

-- a step, by its cone, refutes a query
pub record RefutesByCone (problem : Problem) (query : Query) (log : List LogEntry) (last : Step) : Type 0 where
  pub numbered : CanBeNumbered (length problem.clauses) log last
  pub refutes : Refutes problem query (cone_of (length problem.clauses) log last)

-- the cone of a step that passes at the end of a log whose entries pass is a certificate that checks
abbrev pub ConeChecks : Type 0
ConeChecks = (problem : Problem) (query : Query) (log : List LogEntry) (begins : ℕ) (last : Step) (certificate : Certificate) → IsValidProblem problem
    → LogPasses problem query.locals log begins → LearnedPasses problem query.locals log begins (length log) last
    → IsCone (length problem.clauses) log last certificate → Checks problem query certificate

-- a step has one cone at most
abbrev pub ConeIsUnique : Type 0
ConeIsUnique = (bases : ℕ) (log : List LogEntry) (last : Step) (certificate other : Certificate) → IsCone bases log last certificate → IsCone bases log last other → certificate ≡ other

-- the cone of a step whose hints, like those of the entries, name what comes before stays the same when the log grows at
-- its end
abbrev pub ConeStays : Type 0
ConeStays = (bases : ℕ) (log more : List LogEntry) (last : Step) (certificate : Certificate)
    → AllNameEarlier bases log → All (λ hint. hint < bases + length log) last.hints
    → IsCone bases log last certificate → IsCone bases (log ++ more) last certificate
