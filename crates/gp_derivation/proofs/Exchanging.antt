-- What is fit to share is good.
use Rattle.std.proofs.Common.{◌≡◌, ℕ, suc, ◌+◌, ◌<◌, true, Some, List, [], ◌∷◌, ◌++◌, length, All, refl, sym, ◌∙◌, subst, ap, arith}
use Rattle.std.specs.List.{slice_get}
use Rattle.std.proofs.lemmas.List.{map-append}
use Rattle.std.proofs.lemmas.List.Elements.{All-head, All-weaker}
use Rattle.std.proofs.lemmas.Option.{slice_get_within}
use Rattle.gp_clause.specs.declared.kind.Kind.{Kind}
use Rattle.gp_clause.specs.declared.problem.Problem.{Problem}
use Rattle.gp_clause.specs.Clause.{NamesBelow}
use Rattle.gp_clause.specs.Problem.{IsValidProblem}
use Rattle.gp_certificate.specs.declared.certificate.Certificate.{Certificate}
use Rattle.gp_derivation.specs.declared.log.LogEntry.{LogEntry}
use Rattle.gp_derivation.specs.declared.log.Origin.{Origin}
use Rattle.gp_derivation.specs.declared.log.Origin.TheVariants.{Learned, Taken}
use Rattle.gp_certificate.specs.declared.step.Step.{Step}
use Rattle.gp_certificate.specs.Certificate.{Proves, StepsCheck, clauses_of}
use Rattle.gp_derivation.specs.Cones.{IsCone, cone_step, steps_given, kept_steps, cone_steps}
use Rattle.gp_derivation.specs.Exchange.{FitIsGood}
use Rattle.gp_derivation.specs.Fit.{IsConeBy}
use Rattle.gp_derivation.specs.Log.{LogPasses, OriginPasses}
use Rattle.gp_derivation.specs.Numbering.{steps_before, number_of}
use Rattle.gp_derivation.specs.Reach.IsReached.{direct, through}
use Rattle.gp_derivation.proofs.Coning.{FitsLearned, KeepsFitting, cone_checked, cone_prefix, fits_pure, given_checks}
use Rattle.gp_derivation.proofs.Purity.{some_pass, taken_below}
use Rattle.gp_certificate.specs.CheckingLaws.{check_append}
use Rattle.gp_derivation.proofs.Rooms.{all_left, all_right}

-- an entry that gives clauses of problem variables alone has a clause of them
given_below : (problem : Problem) (own : List Kind) (log : List LogEntry) (began place : ℕ) (number : ℕ → ℕ) (before : ℕ) (step : Step) (origin : Origin)
    → All (NamesBelow (length problem.kinds)) (clauses_of (steps_given (length problem.clauses) number before step origin)) → OriginPasses problem own log began place step origin → NamesBelow (length problem.kinds) step.clause
given_below problem own log began place number before step Learned below passes = All-head (NamesBelow (length problem.kinds)) step.clause [] below
given_below problem own log began place number before step (Taken sender certificate) below passes = taken_below problem own log began place step (Taken sender certificate) tt passes

-- a log whose entries pass, and the cone of a learned step of it whose clauses have problem variables alone
pub record IsBareCone (problem : Problem) (locals : List Kind) (log : List LogEntry) (begins : ℕ) (last : Step) (certificate : Certificate) : Type 0 where
  pub valid : IsValidProblem problem
  pub passes : LogPasses problem locals log begins
  pub cone : IsCone (length problem.clauses) log last certificate
  pub below : All (NamesBelow (length problem.kinds)) (clauses_of certificate.steps)

module _ (problem : Problem) (locals : List Kind) (log : List LogEntry) (begins : ℕ) (last : Step) (certificate : Certificate) (bare : IsBareCone problem locals log begins last certificate) where
  abbrev bases : ℕ
  bases = length problem.clauses

  abbrev cone : List Step
  cone = cone_steps bases bare.cone.kept log (length log)

  abbrev ending : Step
  ending = cone_step bases (number_of bases bare.cone.kept log) last

  parts : clauses_of certificate.steps ≡ clauses_of cone ++ last.clause ∷ []
  parts = ap clauses_of bare.cone.steps ∙ map-append (λ (s : Step). s.clause) cone (ending ∷ [])

  both_below : All (NamesBelow (length problem.kinds)) (clauses_of cone ++ last.clause ∷ [])
  both_below = subst (All (NamesBelow (length problem.kinds))) parts bare.below

  last_below : NamesBelow (length problem.kinds) last.clause
  last_below = All-head (NamesBelow (length problem.kinds)) last.clause [] (all_right (NamesBelow (length problem.kinds)) (clauses_of cone) (last.clause ∷ []) both_below)

  -- a kept entry has a clause of problem variables alone
  kept_below : (place : ℕ) (entry : LogEntry) → bare.cone.kept place ≡ true → slice_get log place ≡ Some entry → NamesBelow (length problem.kinds) entry.step.clause
  kept_below place entry keeps got =
      let some = some_pass problem locals log begins bare.passes place entry got in
      given_below problem some.0 log some.1 place number before entry.step entry.origin (subst (λ (ss : List Step). All (NamesBelow (length problem.kinds)) (clauses_of ss)) piece piece_below) some.2
    where
      number : ℕ → ℕ
      number = number_of bases bare.cone.kept log

      before : ℕ
      before = steps_before bare.cone.kept log place

      piece : kept_steps bases number before (bare.cone.kept place) (slice_get log place) ≡ steps_given bases number before entry.step entry.origin
      piece = ap (λ b. kept_steps bases number before b (slice_get log place)) keeps ∙ ap (kept_steps bases number before true) got

      prefix : (rest : List Step) × (cone ≡ cone_steps bases bare.cone.kept log (suc place) ++ rest)
      prefix = cone_prefix bases bare.cone.kept log (suc place) (length log) (omega (arith, slice_get_within log place entry got))

      cone_below : All (NamesBelow (length problem.kinds)) (clauses_of cone)
      cone_below = all_left (NamesBelow (length problem.kinds)) (clauses_of cone) (last.clause ∷ []) both_below

      first_below : All (NamesBelow (length problem.kinds)) (clauses_of (cone_steps bases bare.cone.kept log (suc place)))
      first_below = all_left (NamesBelow (length problem.kinds)) (clauses_of (cone_steps bases bare.cone.kept log (suc place))) (clauses_of prefix.0)
          (subst (All (NamesBelow (length problem.kinds))) (ap clauses_of prefix.1 ∙ map-append (λ (s : Step). s.clause) (cone_steps bases bare.cone.kept log (suc place)) prefix.0) cone_below)

      piece_below : All (NamesBelow (length problem.kinds)) (clauses_of (kept_steps bases number before (bare.cone.kept place) (slice_get log place)))
      piece_below = all_right (NamesBelow (length problem.kinds)) (clauses_of (cone_steps bases bare.cone.kept log place)) (clauses_of (kept_steps bases number before (bare.cone.kept place) (slice_get log place)))
          (subst (All (NamesBelow (length problem.kinds)))
          (map-append (λ (s : Step). s.clause) (cone_steps bases bare.cone.kept log place) (kept_steps bases number before (bare.cone.kept place) (slice_get log place))) first_below)

  fitting : KeepsFitting problem [] log bare.cone.kept
  fitting = record {
    fits = λ place entry keeps got.
        let some = some_pass problem locals log begins bare.passes place entry got in
        fits_pure problem [] some.0 log some.1 place entry.step entry.origin (kept_below place entry keeps got)
        (λ other by e at. kept_below other e ((bare.cone.reached other).1 (through other place entry ((bare.cone.reached place).0 keeps) got by)) at) bare.valid.clauses some.2;
    closed = λ place entry keeps got other by. (bare.cone.reached other).1 (through other place entry ((bare.cone.reached place).0 keeps) got by);
  }

  -- the step itself passes without locals
  ends : (own : List Kind) (began place : ℕ) → place < length log → OriginPasses problem own log began place last Learned → FitsLearned problem [] log (length log) last
  ends own began place within passes = record { hints = All-weaker (λ hint. hint < bases + place) (λ hint. hint < bases + length log) (λ hint less. omega (arith, less, within)) last.hints fits.hints; passes = fits.passes }
    where
      fits : FitsLearned problem [] log place last
      fits = fits_pure problem [] own log began place last Learned last_below (λ other by e at. kept_below other e ((bare.cone.reached other).1 (direct other by)) at) bare.valid.clauses passes

  pub bare_proves : (own : List Kind) (began place : ℕ) → place < length log → OriginPasses problem own log began place last Learned → Proves problem certificate last.clause
  bare_proves own began place within passes = record {
    checks = subst (λ (steps : List Step). StepsCheck problem.edges (problem.kinds ++ []) problem.clauses steps) (sym bare.cone.steps)
        (check_append problem.edges (problem.kinds ++ []) problem.clauses cone (ending ∷ []) (cone_checked problem [] log bare.cone.kept fitting bare.valid (length log))
        (given_checks problem [] log bare.cone.kept fitting bare.valid (length log) (omega arith) last Learned (ends own began place within passes) (λ other by. (bare.cone.reached other).1 (direct other by))));
    ends = (ending, (cone, bare.cone.steps), refl);
  }

-- the cone of an entry proves its clause
cone_proves : (problem : Problem) (locals : List Kind) (log : List LogEntry) (begins : ℕ) (own : List Kind) (began place : ℕ) (step : Step) (origin : Origin) (certificate : Certificate) → IsValidProblem problem → LogPasses problem locals log begins
    → All (NamesBelow (length problem.kinds)) (clauses_of certificate.steps) → place < length log → OriginPasses problem own log began place step origin → IsConeBy (length problem.clauses) log step origin certificate → Proves problem certificate step.clause
cone_proves problem locals log begins own began place step Learned certificate valid passes below within passing cone =
    bare_proves problem locals log begins step certificate (record { valid = valid; passes = passes; cone = cone; below = below }) own began place within passing
cone_proves problem locals log begins own began place step (Taken sender shared) certificate valid passes below within passing same = subst (λ (c : Certificate). Proves problem c step.clause) (sym same) passing.proves

pub fits_good : FitIsGood
fits_good problem locals log begins valid passes place entry certificate got fit =
    let some = some_pass problem locals log begins passes place entry got in
    record {
      few = fit.few;
      small = fit.small;
      proves = cone_proves problem locals log begins some.0 some.1 place entry.step entry.origin certificate valid passes fit.small.below (slice_get_within log place entry got) some.2 fit.cone;
    }
