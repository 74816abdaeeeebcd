-- What stays as it is when a log grows.
use Rattle.std.proofs.Common.{◌≡◌, ℕ, zero, suc, ◌+◌, ◌-◌, ◌<◌, ◌≤◌, ◌↔◌, ◌⊎◌, inl, inr, Bool, true, false, IsTrue, Some, List, [], ◌∷◌, ◌++◌, length, map, take, drop, All, refl, sym, ◌∙◌, subst, ap, append_assoc, arith}
use Rattle.std.specs.List.{slice_get}
use Rattle.std.proofs.lemmas.Bool.{cases_lt}
use Rattle.std.proofs.lemmas.List.{append-nil, length-append, length-map, length-drop, map-append, take-append-le, drop-append-le}
use Rattle.std.proofs.lemmas.List.Elements.{All-weaker, All-contains}
use Rattle.std.proofs.lemmas.Option.{slice_get_within}
use Rattle.gp_clause.specs.declared.lit.Lit.{Lit}
use Rattle.gp_clause.specs.declared.problem.Problem.{Problem}
use Rattle.gp_certificate.specs.declared.step.Step.{Step}
use Rattle.gp_certificate.specs.declared.certificate.Certificate.{Certificate}
use Rattle.gp_derivation.specs.declared.log.LogEntry.{LogEntry}
use Rattle.gp_derivation.specs.declared.log.Origin.{Origin}
use Rattle.gp_derivation.specs.declared.log.Origin.TheVariants.{Learned, Taken}
use Rattle.gp_derivation.specs.declared.record.Turn.{Turn}
use Rattle.gp_derivation.specs.Log.{logged}
use Rattle.gp_certificate.specs.Step.{named}
use Rattle.gp_derivation.specs.Tight.{IsTight}
use Rattle.gp_derivation.specs.Spent.{IsNewBy, SpentStays, turned}
use Rattle.gp_derivation.specs.Numbering.{AllNameEarlier, NamesEarlier, counted, steps_before, number_of}
use Rattle.gp_derivation.specs.Reach.{IsReached, rests_on}
use Rattle.gp_derivation.specs.Reach.IsReached.{direct, through}
use Rattle.gp_derivation.specs.Cones.{ConeIsUnique, ConeStays, IsCone, cone_step, kept_steps, cone_steps}
use Rattle.gp_derivation.specs.Fit.{IsConeBy}
use Rattle.gp_derivation.specs.FitStaying.{FitStays}
use Rattle.gp_base.specs.ListLaws.{slice_get_front, got_front}
use Rattle.gp_derivation.proofs.Growing.{origin_longer}
use Rattle.gp_derivation.proofs.Descending.{rests_earlier}
use Rattle.gp_certificate.specs.NamedLaws.{named_longer}
use Rattle.gp_derivation.specs.GrowthLaws.{hints_before}

-- what hints named before a log grew they name in the longer log
logged_named : (problem : Problem) (log more : List LogEntry) (place : ℕ) (hints : List ℕ) → place ≤ length log → All (λ hint. hint < length problem.clauses + place) hints
    → named (logged problem (log ++ more)) hints ≡ named (logged problem log) hints
logged_named problem log more place hints before within =
    let clauses : List (List Lit) = map (λ (entry : LogEntry). entry.step.clause) log in
    let added : List (List Lit) = map (λ (entry : LogEntry). entry.step.clause) more in
    let longer : logged problem (log ++ more) ≡ (problem.clauses ++ clauses) ++ added = ap (λ xs. problem.clauses ++ xs) (map-append (λ (entry : LogEntry). entry.step.clause) log more) ∙ sym (append_assoc problem.clauses clauses added) in
    let size : length (problem.clauses ++ clauses) ≡ length problem.clauses + length log = length-append problem.clauses clauses ∙ ap (λ n. length problem.clauses + n) (length-map log (λ (entry : LogEntry). entry.step.clause)) in
    ap (λ xs. named xs hints) longer ∙ named_longer (problem.clauses ++ clauses) added hints
    (All-weaker (λ hint. hint < length problem.clauses + place) (λ hint. hint < length (problem.clauses ++ clauses)) (λ hint less. omega (arith, size, less, before)) hints within)

-- the entries of a turn before a place
turned_same : (problem : Problem) (log more : List LogEntry) (turn : Turn) (place : ℕ) → place ≤ length log → turned problem (log ++ more) turn place ≡ turned problem log turn place
turned_same problem log more turn place before = ap (λ xs. problem.clauses ++ map (λ (entry : LogEntry). entry.step.clause) xs) (at (cases_lt place turn.begins))
  where
    at : (place < turn.begins) ⊎ (turn.begins ≤ place) → take (place - turn.begins) (drop turn.begins (log ++ more)) ≡ take (place - turn.begins) (drop turn.begins log)
    at (inl early) = let none : place - turn.begins ≡ 0 = omega (arith, early) in ap (λ n. take n (drop turn.begins (log ++ more))) none ∙ sym (ap (λ n. take n (drop turn.begins log)) none)
    at (inr after) = ap (λ xs. take (place - turn.begins) xs) (drop-append-le turn.begins log more (omega (arith, after, before)))
        ∙ take-append-le (place - turn.begins) (drop turn.begins log) more (omega (arith, length-drop turn.begins log, after, before))

pub spent_stays : SpentStays
spent_stays problem query log more budget turn from to spent = record {
  begins = spent.begins;
  ends = spent.ends;
  learning = record {
    counted = spent.learning.counted;
    logged = omega (arith, length-append log more, spent.learning.logged);
    learned = λ place entry got after before. spent.learning.learned place entry (was place entry before got) after before;
  };
  passing = λ place entry got after before. origin_longer problem query.locals log more turn.begins place entry.step entry.origin (spent.passing place entry (was place entry before got) after before);
  news = λ place entry got after before.
      let new : (lit : Lit) × IsNewBy problem query (turned problem log turn place) entry.step.clause lit = spent.news place entry (was place entry before got) after before in
      (new.0, subst (λ (cs : List (List Lit)). IsNewBy problem query cs entry.step.clause new.0) (sym (turned_same problem log more turn place (omega (arith, before, spent.learning.logged)))) new.1);
  tight = λ place entry got after before.
      let it : slice_get log place ≡ Some entry = was place entry before got in
      let hints : All (λ hint. hint < length problem.clauses + place) entry.step.hints = hints_before problem query.locals log turn.begins place entry.step entry.origin (spent.learning.learned place entry it after before) (spent.passing place entry it after before) in
      subst (λ (cs : List (List Lit)). IsTight problem.edges (problem.kinds ++ query.locals) cs entry.step.clause) (sym (logged_named problem log more place entry.step.hints (omega (arith, before, spent.learning.logged)) hints))
      (spent.tight place entry it after before);
}
  where
    was : (place : ℕ) (entry : LogEntry) → place < turn.ends → slice_get (log ++ more) place ≡ Some entry → slice_get log place ≡ Some entry
    was place entry before got = sym (slice_get_front log more place (omega (arith, before, spent.learning.logged))) ∙ got

-- two tests with one meaning are the same
same_test : (a b : Bool) → (IsTrue a → IsTrue b) → (IsTrue b → IsTrue a) → a ≡ b
same_test true b there back = sym (there refl)
same_test false true there back = back refl
same_test false false there back = refl

pub cone_is_unique : ConeIsUnique
cone_is_unique bases log last certificate other one two = λ i. record { steps = steps i }
  where
    kept : one.kept ≡ two.kept
    kept = λ i place. same_test (one.kept place) (two.kept place) (λ told. (two.reached place).1 ((one.reached place).0 told)) (λ told. (one.reached place).1 ((two.reached place).0 told)) i

    steps : certificate.steps ≡ other.steps
    steps = one.steps ∙ ap (λ (k : ℕ → Bool). cone_steps bases k log (length log) ++ cone_step bases (number_of bases k log) last ∷ []) kept ∙ sym two.steps

-- what is reached from hints that name entries of a log stands in it
pub reached_within : (bases : ℕ) (log : List LogEntry) (hints : List ℕ) → AllNameEarlier bases log → All (λ hint. hint < bases + length log) hints
    → (place : ℕ) → IsReached bases log hints place → place < length log
reached_within bases log hints names within place (direct p by) = let less : bases + p < bases + length log = All-contains (λ h. h < bases + length log) hints (bases + p) within by in omega (arith, less)
reached_within bases log hints names within place (through p other entry reached got by) =
    let less : bases + p < bases + other = All-contains (λ h. h < bases + other) (rests_on entry.step entry.origin) (bases + p) (rests_earlier bases other entry.step entry.origin (names other entry got)) by in
    omega (arith, less, reached_within bases log hints names within other reached)

reached_longer : (bases : ℕ) (log more : List LogEntry) (hints : List ℕ) (place : ℕ) → IsReached bases log hints place → IsReached bases (log ++ more) hints place
reached_longer bases log more hints place (direct p by) = direct p by
reached_longer bases log more hints place (through p other entry reached got by) = through p other entry (reached_longer bases log more hints other reached) (got_front log more other entry got) by

pub reached_shorter : (bases : ℕ) (log more : List LogEntry) (hints : List ℕ) → AllNameEarlier bases log → All (λ hint. hint < bases + length log) hints
    → (place : ℕ) → IsReached bases (log ++ more) hints place → IsReached bases log hints place
reached_shorter bases log more hints names within place (direct p by) = direct p by
reached_shorter bases log more hints names within place (through p other entry reached got by) =
    let it : IsReached bases log hints other = reached_shorter bases log more hints names within other reached in
    through p other entry it (sym (slice_get_front log more other (reached_within bases log hints names within other it)) ∙ got) by

module _ (bases : ℕ) (log more : List LogEntry) (kept : ℕ → Bool) (none : (place : ℕ) → length log ≤ place → kept place ≡ false) where
  counted_same : (place : ℕ) → counted (kept place) (slice_get (log ++ more) place) ≡ counted (kept place) (slice_get log place)
  counted_same place = at (cases_lt place (length log))
    where
      at : (place < length log) ⊎ (length log ≤ place) → counted (kept place) (slice_get (log ++ more) place) ≡ counted (kept place) (slice_get log place)
      at (inl less) = ap (counted (kept place)) (slice_get_front log more place less)
      at (inr past) = ap (λ (b : Bool). counted b (slice_get (log ++ more) place)) (none place past) ∙ sym (ap (λ (b : Bool). counted b (slice_get log place)) (none place past))

  before_same : (place : ℕ) → steps_before kept (log ++ more) place ≡ steps_before kept log place
  before_same zero = refl
  before_same (suc place) = λ i. before_same place i + counted_same place i

  numbers_same : number_of bases kept (log ++ more) ≡ number_of bases kept log
  numbers_same = λ i place. (bases + before_same (suc place) i) - 1

  piece_same : (number : ℕ → ℕ) (before place : ℕ) → kept_steps bases number before (kept place) (slice_get (log ++ more) place) ≡ kept_steps bases number before (kept place) (slice_get log place)
  piece_same number before place = at (cases_lt place (length log))
    where
      at : (place < length log) ⊎ (length log ≤ place) → kept_steps bases number before (kept place) (slice_get (log ++ more) place) ≡ kept_steps bases number before (kept place) (slice_get log place)
      at (inl less) = ap (kept_steps bases number before (kept place)) (slice_get_front log more place less)
      at (inr past) = ap (λ (b : Bool). kept_steps bases number before b (slice_get (log ++ more) place)) (none place past) ∙ sym (ap (λ (b : Bool). kept_steps bases number before b (slice_get log place)) (none place past))

  steps_same : (place : ℕ) → cone_steps bases kept (log ++ more) place ≡ cone_steps bases kept log place
  steps_same zero = refl
  steps_same (suc place) = (λ i. steps_same place i ++ kept_steps bases (numbers_same i) (before_same place i) (kept place) (slice_get (log ++ more) place))
      ∙ ap (λ (xs : List Step). cone_steps bases kept log place ++ xs) (piece_same (number_of bases kept log) (steps_before kept log place) place)

  -- nothing is kept past the end
  steps_past : (place : ℕ) → length log ≤ place → cone_steps bases kept log place ≡ cone_steps bases kept log (length log)
  steps_past zero past = let end : 0 ≡ length log = omega (arith, past) in ap (cone_steps bases kept log) end
  steps_past (suc place) past = at (cases_lt (length log) (suc place)) (steps_past place)
    where
      at : (length log < suc place) ⊎ (suc place ≤ length log) → (length log ≤ place → cone_steps bases kept log place ≡ cone_steps bases kept log (length log)) → cone_steps bases kept log (suc place) ≡ cone_steps bases kept log (length log)
      at (inl less) earlier =
          ap (λ (b : Bool). cone_steps bases kept log place ++ kept_steps bases (number_of bases kept log) (steps_before kept log place) b (slice_get log place)) (none place (omega (arith, less)))
          ∙ append-nil (cone_steps bases kept log place) ∙ earlier (omega (arith, less))
      at (inr least) earlier = let end : suc place ≡ length log = omega (arith, past, least) in ap (cone_steps bases kept log) end

pub cone_stays : ConeStays
cone_stays bases log more last certificate names within cone = record {
  kept = cone.kept;
  reached = λ place. (
    λ told. reached_longer bases log more last.hints place ((cone.reached place).0 told),
    λ reached. (cone.reached place).1 (reached_shorter bases log more last.hints names within place reached),
  );
  steps = cone.steps ∙ (λ i. front i ++ cone_step bases (sym (numbers_same bases log more cone.kept none) i) last ∷ []);
}
  where
    none : (place : ℕ) → length log ≤ place → cone.kept place ≡ false
    none place past = at (cone.kept place) refl
      where
        at : (b : Bool) → cone.kept place ≡ b → cone.kept place ≡ false
        at false is = is
        at true is = absurd (omega (arith, past, reached_within bases log last.hints names within place ((cone.reached place).0 is)))

    front : cone_steps bases cone.kept log (length log) ≡ cone_steps bases cone.kept (log ++ more) (length (log ++ more))
    front = sym (steps_same bases log more cone.kept none (length (log ++ more)) ∙ steps_past bases log more cone.kept none (length (log ++ more)) (omega (arith, length-append log more)))

-- the cone of a step in a longer log is its cone in the log
cone_shortens : (bases : ℕ) (log more : List LogEntry) (last : Step) (certificate : Certificate) → AllNameEarlier bases log
    → All (λ hint. hint < bases + length log) last.hints → IsCone bases (log ++ more) last certificate → IsCone bases log last certificate
cone_shortens bases log more last certificate names within cone = record {
  kept = cone.kept;
  reached = λ place. (
    λ told. reached_shorter bases log more last.hints names within place ((cone.reached place).0 told),
    λ reached. (cone.reached place).1 (reached_longer bases log more last.hints place reached),
  );
  steps = cone.steps ∙ (λ i. front i ++ cone_step bases (numbers_same bases log more cone.kept none i) last ∷ []);
}
  where
    none : (place : ℕ) → length log ≤ place → cone.kept place ≡ false
    none place past = at (cone.kept place) refl
      where
        at : (b : Bool) → cone.kept place ≡ b → cone.kept place ≡ false
        at false is = is
        at true is = absurd (omega (arith, past, reached_within bases log last.hints names within place (reached_shorter bases log more last.hints names within place ((cone.reached place).0 is))))

    front : cone_steps bases cone.kept (log ++ more) (length (log ++ more)) ≡ cone_steps bases cone.kept log (length log)
    front = steps_same bases log more cone.kept none (length (log ++ more)) ∙ steps_past bases log more cone.kept none (length (log ++ more)) (omega (arith, length-append log more))

-- the cone of an entry by its origin stays the same
cone_by_same : (problem : Problem) (log more : List LogEntry) (place : ℕ) (step : Step) (origin : Origin) (certificate : Certificate)
    → AllNameEarlier (length problem.clauses) log → NamesEarlier (length problem.clauses) place step origin → place < length log
    → IsConeBy (length problem.clauses) log step origin certificate ↔ IsConeBy (length problem.clauses) (log ++ more) step origin certificate
cone_by_same problem log more place step Learned certificate names own within =
    let hints : All (λ hint. hint < length problem.clauses + length log) step.hints =
    All-weaker (λ hint. hint < length problem.clauses + place) (λ hint. hint < length problem.clauses + length log) (λ hint low. omega (arith, low, within)) step.hints own in
    (cone_stays (length problem.clauses) log more step certificate names hints, cone_shortens (length problem.clauses) log more step certificate names hints)
cone_by_same problem log more place step (Taken sender own) certificate names earlier within = ((λ is. is), (λ is. is))

pub fit_stays : FitStays
fit_stays problem log more names place entry got =
    let same = λ (certificate : Certificate). cone_by_same problem log more place entry.step entry.origin certificate names (names place entry got) (slice_get_within log place entry got) in (
      λ fit. (fit.0, record { few = fit.1.few; cone = (same fit.0).0 fit.1.cone; small = fit.1.small }),
      λ fit. (fit.0, record { few = fit.1.few; cone = (same fit.0).1 fit.1.cone; small = fit.1.small }),
    )
