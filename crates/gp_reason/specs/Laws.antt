-- What is true of reasons.
use Rattle.std.specs.Prelude.{ℕ, ◌≡◌, ◌⊎◌, ◌+◌, ◌<◌, ◌≤◌, true, Contains, List, [], ◌∷◌, ◌++◌, Some, None, length, map, slice_get}
use Rattle.gp_base.specs.ListLaws.{Pairwise}
use Rattle.gp_certificate.specs.declared.certificate.Certificate.{Certificate}
use Rattle.gp_certificate.specs.declared.step.Step.{Step}
use Rattle.gp_certificate.specs.Certificate.{clauses_of as certificate_clauses}
use Rattle.gp_certificate.specs.Shared.{ChecksOver, RefutesOver}
use Rattle.gp_certificate.specs.Step.{Passes}
use Rattle.gp_clause.specs.declared.lit.Lit.{Lit}
use Rattle.gp_clause.specs.declared.problem.Problem.{Problem}
use Rattle.gp_clause.specs.declared.problem.Query.{Query}
use Rattle.gp_clause.specs.Closure.{Derived}
use Rattle.gp_clause.specs.Lit.{negations}
use Rattle.gp_clause.specs.Problem.{IsValidProblem}
use Rattle.gp_constraint.specs.declared.base_family.BaseFamily.{BaseFamily}
use Rattle.gp_constraint.specs.declared.symbol.Symbol.{Symbol}
use Rattle.gp_constraint.specs.declared.symbol.SymbolicLit.{SymbolicLit}
use Rattle.gp_constraint.specs.Base.{base_of, clauses_of}
use Rattle.gp_constraint.specs.Families.{family_clauses}
use Rattle.gp_constraint.specs.PointIds.{id_at}
use Rattle.gp_constraint.specs.Points.{points_of}
use Rattle.gp_constraint.specs.Query.{query_names, query_of}
use Rattle.gp_cycle.specs.Laws.{GoRound}
use Rattle.gp_property.specs.PropertyForm.{PropertyForm}
use Rattle.gp_window.specs.declared.schedule.EventId.{EventId}
use Rattle.gp_window.specs.WindowForm.{WindowForm}
use Rattle.gp_reason.specs.declared.fact.Fact.{Fact}
use Rattle.gp_reason.specs.declared.fact.Fact.TheVariants.{Before}
use Rattle.gp_reason.specs.Cycles.{cycle_told, forces_nothing, hinted}
use Rattle.gp_reason.specs.Facts.{fact_of, facts_of}
use Rattle.gp_reason.specs.Families.{family_at}
use Rattle.gp_reason.specs.Reasons.{reason_by, reason_of}
use Rattle.gp_reason.specs.Told.{NumberedStep, all_steps, cites, told_of}

-- the last step of a certificate with its own number, behind so many base clauses, the shared steps and those before it
abbrev pub last_step : ℕ → List Step → List Step → Step → NumberedStep
last_step base shared front last =
    record { first = base + length shared; number = base + length shared + length front; step = last }

-- the last of some steps rests on itself, and on each of them that is cited by a later one on which it rests
pub data RestsOn (steps : List NumberedStep) (last : NumberedStep) : NumberedStep → Type 0 where
  itself : (step : NumberedStep) → step ≡ last → RestsOn steps last step
  cited : (later step : NumberedStep) → RestsOn steps last later → Contains steps step → step.number < later.number → cites step.number later ≡ true
      → RestsOn steps last step

-- a reason tells the steps on which the last step of the certificate rests, each once
pub record ReasonsTellWhatTheyRestOn : Type 0 where
  -- each step that is told is one of the shared ones or of the certificate, and the last one rests on it
  pub only : (base : ℕ) (shared front : List Step) (last : Step) (step : NumberedStep) → Contains (told_of base shared (front ++ last ∷ [])) step
      → Contains (all_steps base shared (front ++ last ∷ [])) step × RestsOn (all_steps base shared (front ++ last ∷ [])) (last_step base shared front last) step
  -- each one on which it rests is told
  pub all : (base : ℕ) (shared front : List Step) (last : Step) (step : NumberedStep)
      → RestsOn (all_steps base shared (front ++ last ∷ [])) (last_step base shared front last) step → Contains (told_of base shared (front ++ last ∷ [])) step
  -- their numbers rise, so that none is told twice
  pub once : (base : ℕ) (shared own : List Step) → Pairwise (λ one other. one.number < other.number) (told_of base shared own)
  -- the steps of the reason are these, each says what its clause does, and has a cycle by which it follows
  pub numbers : (window : WindowForm) (names : List Symbol) (clauses : List (List Lit)) (shared own : List Step)
      → map (λ step. step.number) (reason_by window names clauses shared own).steps ≡ map (λ told. told.number) (told_of (length (base_of window).clauses) shared own)
  pub says : (window : WindowForm) (names : List Symbol) (clauses : List (List Lit)) (shared own : List Step)
      → map (λ step. step.says) (reason_by window names clauses shared own).steps
      ≡ map (λ told. facts_of window names told.step.clause) (told_of (length (base_of window).clauses) shared own)
  pub cycles : (window : WindowForm) (names : List Symbol) (clauses : List (List Lit)) (shared own : List Step)
      → map (λ step. step.cycle) (reason_by window names clauses shared own).steps
      ≡ map (λ told. cycle_told window names clauses told.number told.step) (told_of (length (base_of window).clauses) shared own)

-- of a certificate that checks, each step that is told passes with the clauses of the problem and those told before it
abbrev pub ReasonsAreEnough : Type 0
ReasonsAreEnough = (problem : Problem) (shared : List Step) (query : Query) (certificate : Certificate) → IsValidProblem problem → ChecksOver problem shared query certificate
    → (before after : List NumberedStep) (told : NumberedStep) → told_of (length problem.clauses) shared certificate.steps ≡ before ++ told ∷ after
    → Passes problem.edges (problem.kinds ++ query.locals) (problem.clauses ++ map (λ step. step.step.clause) before) told.step.clause

-- a clause of a window is one of the clauses of its family, and only a number of a clause has a family
pub record FamiliesAreTold : Type 0 where
  pub family : (window : WindowForm) (number : ℕ) (clause : List SymbolicLit) → slice_get (clauses_of window) number ≡ Some clause
      → (family : BaseFamily) × (family_at window number ≡ Some family) × Contains (family_clauses window family) clause
  pub none : (window : WindowForm) (number : ℕ) → length (clauses_of window) ≤ number → family_at window number ≡ None

-- an event is before another in the same thread, or from the negation of the clause of a step of this number the clauses that its hints
-- number derive a literal that says so
abbrev pub IsForcedBefore : WindowForm → List Symbol → List (List Lit) → ℕ → Step → EventId → EventId → Type 0
IsForcedBefore window names clauses number step one other =
    ((one.thread ≡ other.thread) × (one.index < other.index))
    ⊎ ((lit : Lit) × Derived (negations step.clause) (hinted clauses number step.hints) lit × (fact_of names (id_at (points_of window)) lit ≡ Before one other))

-- where a cycle is told, each of its events is forced to be before the next, and the last one before the first
abbrev pub CyclesAreForced : Type 0
CyclesAreForced = (window : WindowForm) (names : List Symbol) (clauses : List (List Lit)) (number : ℕ) (step : Step)
    → (cycle_told window names clauses number step ≡ []) ⊎ GoRound (IsForcedBefore window names clauses number step) (cycle_told window names clauses number step)

-- the clauses that the hints of a certificate over shared steps number
abbrev pub all_clauses : Problem → List Step → Certificate → List (List Lit)
all_clauses problem shared certificate = problem.clauses ++ (certificate_clauses shared ++ certificate_clauses certificate.steps)

-- a step with hints that is told of a certificate that checks passes with just what is told as its grounds
pub record GroundsAreEnough : Type 0 where
  -- the clauses that its hints number
  pub cited : (problem : Problem) (shared : List Step) (query : Query) (certificate : Certificate) → IsValidProblem problem → ChecksOver problem shared query certificate
      → (told : NumberedStep) (hint : ℕ) → Contains (told_of (length problem.clauses) shared certificate.steps) told → Contains told.step.hints hint
      → Passes problem.edges (problem.kinds ++ query.locals) (hinted (all_clauses problem shared certificate) told.number told.step.hints) told.step.clause
  -- where these force nothing none, so that the order within threads is enough
  pub alone : (problem : Problem) (shared : List Step) (query : Query) (certificate : Certificate) → IsValidProblem problem → ChecksOver problem shared query certificate
      → (told : NumberedStep) (hint : ℕ) → Contains (told_of (length problem.clauses) shared certificate.steps) told → Contains told.step.hints hint
      → forces_nothing (all_clauses problem shared certificate) told.number told.step ≡ true
      → Passes problem.edges (problem.kinds ++ query.locals) [] told.step.clause

-- where a certificate refutes the query of an instance, all that its reason assumes is assumed by the query
abbrev pub AssumedIsAsked : Type 0
AssumedIsAsked = (window : WindowForm) (property : PropertyForm) (ids : List EventId) (shared : List Step) (certificate : Certificate)
    → RefutesOver (base_of window) shared (query_of window property ids) certificate → (fact : Fact) → Contains (reason_of window property ids shared certificate).assumed fact
    → Contains (facts_of window (query_names window property ids) (query_of window property ids).assumed) fact
