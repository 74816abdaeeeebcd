-- What a turn has learned, as its log grows.
use Rattle.std.proofs.Common.{◌≡◌, sym, ◌∙◌, ap, subst, ℕ, ◌+◌, ◌-◌, ◌<◌, ◌≤◌, Some, List, [], ◌∷◌, ◌++◌, length, map, take, drop, All, ◌⊎◌, inl, inr, append_assoc, arith}
use Rattle.std.specs.List.{slice_get}
use Rattle.std.proofs.lemmas.Bool.{cases_lt}
use Rattle.std.proofs.lemmas.Option.{same_Some, slice_get_within}
use Rattle.std.proofs.lemmas.List.{map-append, length-append, length-map, length-drop, length_push, drop-append-le, take-append-le}
use Rattle.std.proofs.lemmas.List.Elements.{All-weaker}
use Rattle.gp_clause.specs.declared.lit.Lit.{Lit}
use Rattle.gp_clause.specs.declared.problem.Problem.{Problem}
use Rattle.gp_clause.specs.declared.problem.Query.{Query}
use Rattle.gp_clause.specs.Clause.{IsRising}
use Rattle.gp_derivation.specs.declared.log.LogEntry.{LogEntry}
use Rattle.gp_derivation.specs.declared.log.Origin.TheVariants.{Learned}
use Rattle.gp_certificate.specs.declared.step.Step.{Step}
use Rattle.gp_derivation.specs.Log.{IsLearned, OriginPasses, logged}
use Rattle.gp_base.specs.ListLaws.{slice_get_front, slice_get_back}
use Rattle.gp_derivation.specs.Spent.{IsNewBy, turned}
use Rattle.gp_certificate.specs.Step.{named}
use Rattle.gp_derivation.specs.Tight.{IsTight}
use Rattle.gp_search.specs.Inside.{all_kinds, turn_from, IsPassing, IsTaught}
use Rattle.gp_search.specs.Moves.{IsLesson}
use Rattle.gp_certificate.specs.NamedLaws.{named_longer}
use Rattle.gp_derivation.specs.GrowthLaws.{hints_before}

-- a learned entry
abbrev pub entry_of : Step → LogEntry
entry_of step = record { step = step; origin = Learned }

-- the entry at the end of a log
pub last_got : (log : List LogEntry) (entry : LogEntry) (place : ℕ) → place ≡ length log → slice_get (log ++ entry ∷ []) place ≡ Some entry
last_got log entry place at_end = ap (λ (n : ℕ). slice_get (log ++ entry ∷ []) n) (let same : place ≡ length log + 0 = omega (arith, at_end) in same) ∙ slice_get_back log (entry ∷ []) 0

-- an entry of a log with one more is an old one or the new one
pub old_or_last : (log : List LogEntry) (last : LogEntry) (place : ℕ) (entry : LogEntry) → slice_get (log ++ last ∷ []) place ≡ Some entry
    → ((place < length log) × (slice_get log place ≡ Some entry)) ⊎ ((place ≡ length log) × (last ≡ entry))
old_or_last log last place entry got = elim (cases_lt place (length log)) [
  | inl before ↦ inl (before, sym (slice_get_front log (last ∷ []) place before) ∙ got)
  | inr after ↦
      let within : place < length (log ++ last ∷ []) = slice_get_within (log ++ last ∷ []) place entry got in
      let at_end : place ≡ length log = omega (arith, after, within, length_push log last) in
      let both : Some last ≡ Some entry = sym (last_got log last place at_end) ∙ got in
      inr (at_end, same_Some last entry both)
]

-- the clause of an entry
abbrev clause_of : LogEntry → List Lit
clause_of entry = entry.step.clause

-- what a longer log numbers
logged_longer : (problem : Problem) (log more : List LogEntry) → logged problem (log ++ more) ≡ logged problem log ++ map clause_of more
logged_longer problem log more = ap (λ (xs : List (List Lit)). problem.clauses ++ xs) (map-append clause_of log more) ∙ sym (append_assoc problem.clauses (map clause_of log) (map clause_of more))

logged_counted : (problem : Problem) (log : List LogEntry) → length (logged problem log) ≡ length problem.clauses + length log
logged_counted problem log = omega (arith, length-append problem.clauses (map clause_of log), length-map log clause_of)

-- so what is tight in a log is tight in a longer one
tight_longer : (problem : Problem) (query : Query) (log more : List LogEntry) (step : Step) (place : ℕ) → place ≤ length log → All (λ hint. hint < length problem.clauses + place) step.hints
    → IsTight problem.edges (all_kinds problem query) (named (logged problem log) step.hints) step.clause → IsTight problem.edges (all_kinds problem query) (named (logged problem (log ++ more)) step.hints) step.clause
tight_longer problem query log more step place early below tight =
    let within : All (λ hint. hint < length (logged problem log)) step.hints =
    All-weaker (λ hint. hint < length problem.clauses + place) (λ hint. hint < length (logged problem log)) (λ hint low. omega (arith, low, early, logged_counted problem log)) step.hints below in
    let same : named (logged problem (log ++ more)) step.hints ≡ named (logged problem log) step.hints =
    ap (λ (xs : List (List Lit)). named xs step.hints) (logged_longer problem log more) ∙ named_longer (logged problem log) (map clause_of more) step.hints within in
    let P : List (List Lit) → Type 0 = λ cs. IsTight problem.edges (all_kinds problem query) cs step.clause in
    subst P (sym same) tight

-- a place of a turn may use the same clauses in a longer log
turned_longer : (problem : Problem) (log more : List LogEntry) (begins learned place : ℕ) → begins ≤ length log → place ≤ length log
    → turned problem (log ++ more) (turn_from begins learned (length (log ++ more))) place ≡ turned problem log (turn_from begins learned (length log)) place
turned_longer problem log more begins learned place began early =
    let front : take (place - begins) (drop begins (log ++ more)) ≡ take (place - begins) (drop begins log) =
    ap (take (place - begins)) (drop-append-le begins log more began) ∙ take-append-le (place - begins) (drop begins log) more (omega (arith, length-drop begins log, early)) in
    ap (λ (es : List LogEntry). problem.clauses ++ map clause_of es) front

-- at first nothing was learned
pub taught_none : (problem : Problem) (query : Query) (log : List LogEntry) (begins learned : ℕ) → length log ≤ learned → IsTaught problem query log (turn_from begins learned (length log))
taught_none problem query log begins learned all = record {
  rising = λ place entry got late. absurd (none place entry got late);
  news = λ place entry got late _. absurd (none place entry got late);
  tight = λ place entry got late _. absurd (none place entry got late);
}
  where
    none : (place : ℕ) (entry : LogEntry) → slice_get log place ≡ Some entry → learned ≤ place → ⊥
    none place entry got late = omega (arith, slice_get_within log place entry got, late, all)

-- then one step more
pub taught_more : (problem : Problem) (query : Query) (log : List LogEntry) (begins learned : ℕ) (step : Step) → IsPassing problem query.locals log begins learned → IsTaught problem query log (turn_from begins learned (length log))
    → IsLesson problem query log begins step → IsRising step.clause
    → IsTaught problem query (log ++ entry_of step ∷ []) (turn_from begins learned (length (log ++ entry_of step ∷ [])))
taught_more problem query log begins learned step passing old lesson rising = record {
  rising = λ place entry got late. elim (old_or_last log (entry_of step) place entry got) [
    | inl before ↦ old.rising place entry before.1 late
    | inr last ↦ subst (λ (e : LogEntry). IsRising e.step.clause) last.1 rising
  ];
  news = λ place entry got late _. elim (old_or_last log (entry_of step) place entry got) [
    | inl before ↦ let one = old.news place entry before.1 late before.0 in (one.0, new_still place entry one.0 (omega (arith, before.0)) one.1)
    | inr last ↦ (
      lesson.lit,
      subst (λ (e : LogEntry). IsNewBy problem query (turned problem longer (turn_from begins learned (length longer)) place) e.step.clause lesson.lit) last.1
          (new_still place (entry_of step) lesson.lit (omega (arith, last.0)) (subst (λ (n : ℕ). IsNewBy problem query (turned problem log (turn_from begins learned (length log)) n) step.clause lesson.lit) (sym last.0) lesson.is_new)),
    )
  ];
  tight = λ place entry got late _. elim (old_or_last log (entry_of step) place entry got) [
    | inl before ↦
        let own : IsLearned entry.origin = passing.learned place entry before.1 late in
        let passes : OriginPasses problem query.locals log begins place entry.step entry.origin = passing.passes.current place entry before.1 (omega (arith, late, passing.began)) in
        tight_longer problem query log (entry_of step ∷ []) entry.step place (omega (arith, before.0)) (hints_before problem query.locals log begins place entry.step entry.origin own passes) (old.tight place entry before.1 late before.0)
    | inr last ↦ subst (λ (e : LogEntry). IsTight problem.edges (all_kinds problem query) (named (logged problem longer) e.step.hints) e.step.clause) last.1
        (tight_longer problem query log (entry_of step ∷ []) step (length log) (omega arith) lesson.passes.hints lesson.tight)
  ];
}
  where
    longer : List LogEntry
    longer = log ++ entry_of step ∷ []

    new_still : (place : ℕ) (entry : LogEntry) (lit : Lit) → place ≤ length log → IsNewBy problem query (turned problem log (turn_from begins learned (length log)) place) entry.step.clause lit
        → IsNewBy problem query (turned problem (log ++ entry_of step ∷ []) (turn_from begins learned (length (log ++ entry_of step ∷ []))) place) entry.step.clause lit
    new_still place entry lit early is =
        let P : List (List Lit) → Type 0 = λ cs. IsNewBy problem query cs entry.step.clause lit in
        subst P (sym (turned_longer problem log (entry_of step ∷ []) begins learned place (omega (arith, passing.began, passing.within)) early)) is
