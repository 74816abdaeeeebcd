-- Which entries of a log are pure, as the log grows.
use Rattle.std.proofs.Common.{◌≡◌, refl, sym, ◌∙◌, ap, subst, ℕ, ◌+◌, ◌-◌, ◌<◌, Bool, true, false, All, get_or, Some, Option, List, [], ◌∷◌, ◌++◌, length, Contains, ◌⊎◌, inl, inr, arith}
use Rattle.std.specs.List.{slice_get}
use Rattle.std.specs.Prelude.{nat_lt, slice_index_or}
use Rattle.std.proofs.lemmas.Bool.{cases_Bool, cases_lt, lt-ltb, ltb-true}
use Rattle.std.proofs.lemmas.Option.{same_Some, slice_get_within}
use Rattle.std.proofs.lemmas.List.Elements.{All-contains, Contains-get_or}
use Rattle.gp_clause.specs.declared.kind.Kind.{Kind}
use Rattle.gp_clause.specs.declared.problem.Problem.{Problem}
use Rattle.gp_clause.specs.Clause.{NamesBelow}
use Rattle.gp_base.specs.ListLaws.{slice_get_front}
use Rattle.gp_derivation.specs.declared.log.LogEntry.{LogEntry}
use Rattle.gp_derivation.specs.declared.log.Origin.{Origin}
use Rattle.gp_derivation.specs.declared.log.Origin.TheVariants.{Learned, Taken}
use Rattle.gp_certificate.specs.declared.step.Step.{Step}
use Rattle.gp_derivation.specs.Log.{IsPure, IsTaken, LearnedPasses, LogPasses, OriginPasses}
use Rattle.gp_derivation.specs.Log.IsPure.{taken, learned}
use Rattle.gp_search.specs.Inside.{IsMarked}
use Rattle.gp_search.specs.Moves.{is_marked, RestsOnMarked}
use Rattle.gp_search.proofs.Taught.{entry_of, last_got}

-- what is pure is an entry of the log
pub pure_within : (problem : Problem) (log : List LogEntry) (place : ℕ) → IsPure problem log place → place < length log
pure_within problem log place (taken p own got took) = slice_get_within log p own got
pure_within problem log place (learned p own got below others) = slice_get_within log p own got

-- an entry was taken, or its hints name entries before it
by_origin : (problem : Problem) (locals : List Kind) (log : List LogEntry) (begins place : ℕ) (step : Step) (origin : Origin) → OriginPasses problem locals log begins place step origin
    → IsTaken origin ⊎ ((other : ℕ) → Contains step.hints (length problem.clauses + other) → other < place)
by_origin problem locals log begins place step Learned passes = inr (λ other by.
    let early = All-contains (λ hint. hint < length problem.clauses + place) step.hints (length problem.clauses + other) passes.hints by in
    omega (arith, early))
by_origin problem locals log begins place step (Taken sender certificate) passes = inl tt

hints_before : (problem : Problem) (locals : List Kind) (log : List LogEntry) (begins place : ℕ) (entry : LogEntry) → LogPasses problem locals log begins → slice_get log place ≡ Some entry
    → IsTaken entry.origin ⊎ ((other : ℕ) → Contains entry.step.hints (length problem.clauses + other) → other < place)
hints_before problem locals log begins place entry passes got = elim (cases_lt place begins) [
  | inl early ↦ let own = passes.earlier place entry got early in by_origin problem own.0 log own.1 place entry.step entry.origin own.2
  | inr late ↦ by_origin problem locals log begins place entry.step entry.origin (passes.current place entry got late)
]

-- what is pure in a longer log is pure in the log, where it stands there
pub pure_shorter : (problem : Problem) (locals : List Kind) (log more : List LogEntry) (begins place : ℕ) → LogPasses problem locals log begins → place < length log
    → IsPure problem (log ++ more) place → IsPure problem log place
pure_shorter problem locals log more begins place passes within (taken p own got took) = taken p own (sym (slice_get_front log more p within) ∙ got) took
pure_shorter problem locals log more begins place passes within (learned p own got below others) =
    let here : slice_get log p ≡ Some own = sym (slice_get_front log more p within) ∙ got in
    elim (hints_before problem locals log begins p own passes here) [
      | inl took ↦ taken p own here took
      | inr early ↦ learned p own here below (λ other by.
          let before = early other by in
          pure_shorter problem locals log more begins other passes (omega (arith, before, within)) (others other by))
    ]

-- a learned entry that is pure rests on marked ones
pub pure_rests : (problem : Problem) (locals : List Kind) (log : List LogEntry) (begins : ℕ) (marks : List Bool) (step : Step) → LogPasses problem locals log begins
    → LearnedPasses problem locals log begins (length log) step → IsMarked problem log marks → IsPure problem (log ++ entry_of step ∷ []) (length log) → RestsOnMarked problem marks step
pure_rests problem locals log begins marks step passes lesson old pure = at (length log) refl pure
  where
    own_is : (place : ℕ) (own : LogEntry) → place ≡ length log → slice_get (log ++ entry_of step ∷ []) place ≡ Some own → own ≡ entry_of step
    own_is place own last got =
        let both : ◌≡◌ {A = Option LogEntry} (Some own) (Some (entry_of step)) = sym got ∙ last_got log (entry_of step) place last in same_Some own (entry_of step) both

    at : (place : ℕ) → place ≡ length log → IsPure problem (log ++ entry_of step ∷ []) place → RestsOnMarked problem marks step
    at place last (taken p own got took) = absurd (subst (λ (e : LogEntry). IsTaken e.origin) (own_is p own last got) took)
    at place last (learned p own got below others) =
        let same = own_is p own last got in
        record {
          below = subst (λ (e : LogEntry). NamesBelow (length problem.kinds) e.step.clause) same below;
          marked = λ other by.
              let early = All-contains (λ hint. hint < length problem.clauses + length log) step.hints (length problem.clauses + other) lesson.hints by in
              old.pure other (pure_shorter problem locals log (entry_of step ∷ []) begins other passes (omega (arith, early))
              (others other (subst (λ (e : LogEntry). Contains e.step.hints (length problem.clauses + other)) (sym same) by)));
        }

-- the test of a hint that names an entry reads its mark
marked_at : (marks : List Bool) (bases other : ℕ) → is_marked marks bases (bases + other) ≡ slice_index_or marks other false
marked_at marks bases other =
    let at : bases + other - bases ≡ other = omega arith in
    elim (cases_Bool (nat_lt (bases + other) bases)) [
      | inl less ↦ let bad = ltb-true (bases + other) bases less in absurd (omega (arith, bad))
      | inr past ↦ rw past (ap (λ n. slice_index_or marks n false) at)
    ]

-- a step rests on marked entries exactly where each of its hints passes the test
pub rests_tested : (problem : Problem) (marks : List Bool) (step : Step) → NamesBelow (length problem.kinds) step.clause
    → All (λ hint. is_marked marks (length problem.clauses) hint ≡ true) step.hints → RestsOnMarked problem marks step
rests_tested problem marks step below all = record {
  below = below;
  marked = λ other by.
      sym (marked_at marks (length problem.clauses) other)
      ∙ All-contains (λ hint. is_marked marks (length problem.clauses) hint ≡ true) step.hints (length problem.clauses + other) all by;
}

pub tested_rests : (problem : Problem) (marks : List Bool) (step : Step) → RestsOnMarked problem marks step
    → All (λ hint. is_marked marks (length problem.clauses) hint ≡ true) step.hints
tested_rests problem marks step rests k d below =
    let bases : ℕ = length problem.clauses in
    let hint : ℕ = get_or step.hints k d in
    elim (cases_lt hint bases) [
      | inl less ↦ let test : nat_lt hint bases ≡ true = lt-ltb hint bases less in rw test refl
      | inr past ↦
          let parts : bases + (hint - bases) ≡ hint = omega (arith, past) in
          subst (λ n. is_marked marks bases n ≡ true) parts
          (marked_at marks bases (hint - bases)
          ∙ rests.marked (hint - bases) (subst (λ n. Contains step.hints n) (sym parts) (Contains-get_or step.hints k d below)))
    ]
