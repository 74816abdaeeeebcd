-- In a log whose entries pass, each entry names what comes before it.
use Rattle.std.proofs.Common.{◌≡◌, ap, subst, ℕ, zero, suc, ◌+◌, ◌<◌, Some, List, [], ◌∷◌, ◌++◌, length, All, inl, inr, arith}
use Rattle.std.specs.Arc.{arc_value}
use Rattle.std.specs.List.{slice_get}
use Rattle.std.proofs.lemmas.Bool.{cases_lt}
use Rattle.std.proofs.lemmas.List.{length_push}
use Rattle.std.proofs.lemmas.List.Elements.{All-weaker}
use Rattle.std.proofs.lemmas.Option.{none-some, same_Some}
use Rattle.gp_clause.specs.declared.edge.Edge.{Edge}
use Rattle.gp_clause.specs.declared.kind.Kind.{Kind}
use Rattle.gp_clause.specs.declared.lit.Lit.{Lit}
use Rattle.gp_clause.specs.declared.problem.Problem.{Problem}
use Rattle.gp_derivation.specs.declared.log.LogEntry.{LogEntry}
use Rattle.gp_derivation.specs.declared.log.Origin.{Origin}
use Rattle.gp_derivation.specs.declared.log.Origin.TheVariants.{Learned, Taken}
use Rattle.gp_certificate.specs.declared.step.Step.{Step}
use Rattle.gp_certificate.specs.Certificate.{Proves, StepsCheck}
use Rattle.gp_derivation.specs.Log.{LogPasses, OriginPasses}
use Rattle.gp_derivation.specs.Numbering.{AllNameEarlier, NamesEarlier}

-- each step of a certificate that checks has hints to what comes before it
steps_before : (edges : List Edge) (kinds : List Kind) (earlier : List (List Lit)) (steps : List Step) → StepsCheck edges kinds earlier steps → (k : ℕ) (own : Step) → slice_get steps k ≡ Some own
    → All (λ hint. hint < length earlier + k) own.hints
steps_before edges kinds earlier [] checks k own got = absurd (none-some own got)
steps_before edges kinds earlier (step ∷ steps) checks zero own got =
    let same : step ≡ own = same_Some step own got in
    subst (λ (s : Step). All (λ hint. hint < length earlier + 0) s.hints) same (All-weaker (λ hint. hint < length earlier) (λ hint. hint < length earlier + 0) (λ hint low. omega (arith, low)) step.hints checks.0.hints)
steps_before edges kinds earlier (step ∷ steps) checks (suc k) own got =
    All-weaker (λ hint. hint < length (earlier ++ step.clause ∷ []) + k) (λ hint. hint < length earlier + suc k) (λ hint low. omega (arith, low, length_push earlier step.clause)) own.hints
    (steps_before edges kinds (earlier ++ step.clause ∷ []) steps checks.1 k own got)

-- an entry that passes names what comes before it
names_earlier : (problem : Problem) (locals : List Kind) (log : List LogEntry) (begins place : ℕ) (step : Step) (origin : Origin) → OriginPasses problem locals log begins place step origin
    → NamesEarlier (length problem.clauses) place step origin
names_earlier problem locals log begins place step Learned passes = passes.hints
names_earlier problem locals log begins place step (Taken sender certificate) passes = (
  let proves : Proves problem (arc_value certificate) step.clause = passes.proves in
      let steps : List Step = (arc_value certificate).steps in
      let last : steps ≡ proves.ends.1.0 ++ proves.ends.0 ∷ [] = proves.ends.1.1 in
      omega (arith, ap (λ (ss : List Step). length ss) last, length_push proves.ends.1.0 proves.ends.0),
  λ k own got. steps_before problem.edges (problem.kinds ++ []) problem.clauses (arc_value certificate).steps passes.proves.checks k own got,
)

-- so each entry of a log that passes does
pub all_earlier : (problem : Problem) (locals : List Kind) (log : List LogEntry) (begins : ℕ) → LogPasses problem locals log begins → AllNameEarlier (length problem.clauses) log
all_earlier problem locals log begins passes place entry got = elim (cases_lt place begins) [
  | inl before ↦ let some = passes.earlier place entry got before in names_earlier problem some.0 log some.1 place entry.step entry.origin some.2
  | inr after ↦ names_earlier problem locals log begins place entry.step entry.origin (passes.current place entry got after)
]
