-- The cone of a step that passes checks.
use Rattle.std.proofs.Common.{◌≡◌, ℕ, zero, suc, ◌+◌, ◌-◌, ◌<◌, ◌≤◌, ◌⊎◌, inl, inr, Bool, true, false, nat_lt, Option, None, Some, List, [], ◌∷◌, ◌++◌, length, map, All, Contains, refl, sym, ◌∙◌, subst, ap, append_assoc, arith}
use Rattle.std.specs.Arc.{arc_value}
use Rattle.std.specs.List.{slice_get}
use Rattle.std.proofs.lemmas.Bool.{cases_lt}
use Rattle.std.proofs.lemmas.Bool.Decides.{nat_tests}
use Rattle.std.proofs.lemmas.List.{append-nil, map-append, length-append, length-map}
use Rattle.std.proofs.lemmas.List.Elements.{All-nil, All-weaker, All-contains, All-contains_itself}
use Rattle.std.proofs.lemmas.Option.{same_Some, slice_get_within}
use Rattle.gp_clause.specs.declared.kind.Kind.{Kind}
use Rattle.gp_clause.specs.declared.lit.Lit.{Lit}
use Rattle.gp_clause.specs.declared.problem.Problem.{Problem}
use Rattle.gp_clause.specs.Clause.{NamesBelow}
use Rattle.gp_clause.specs.Problem.{IsValidProblem}
use Rattle.gp_certificate.specs.declared.step.Step.{Step}
use Rattle.gp_derivation.specs.declared.log.LogEntry.{LogEntry}
use Rattle.gp_derivation.specs.declared.log.Origin.{Origin}
use Rattle.gp_derivation.specs.declared.log.Origin.TheVariants.{Learned, Taken}
use Rattle.gp_certificate.specs.Certificate.{clauses_of, StepsCheck, Proves}
use Rattle.gp_derivation.specs.Reach.{rests_on, IsReached}
use Rattle.gp_derivation.specs.Numbering.{steps_before, number_of, renumbered, moved, based, with_base, with_hints}
use Rattle.gp_derivation.specs.Cones.{cone_step, steps_given, kept_steps, cone_steps, ConeChecks}
use Rattle.gp_derivation.specs.Reach.IsReached.{direct, through}
use Rattle.gp_derivation.specs.Log.{IsTaken, logged, IsPure, IsUsable, LearnedPasses, OriginPasses, LogPasses}
use Rattle.gp_derivation.specs.Log.IsPure.{taken, learned}
use Rattle.gp_certificate.specs.Step.{Passes, named}
use Rattle.gp_base.specs.ListLaws.{got_front, joined_cases}
use Rattle.gp_derivation.proofs.Drafts.{based_all, length_cone}
use Rattle.gp_derivation.proofs.Purity.{some_pass, pure_below, named_logged}
use Rattle.gp_derivation.proofs.Rehinting.{NamesAlike, named_checks, check_moved}
use Rattle.gp_certificate.specs.CheckingLaws.{check_append, check_wide}
use Rattle.gp_certificate.specs.PassingLaws.{more_pass, passes_bare}

-- what an entry rests on is what its hints name
rests_in : (step : Step) (origin : Origin) (number : ℕ) → Contains (rests_on step origin) number → Contains step.hints number
rests_in step Learned number named = named
rests_in step (Taken sender certificate) number (k, within, is) = absurd (omega arith)

rests_nowhere : (step : Step) (origin : Origin) (number : ℕ) → IsTaken origin → Contains (rests_on step origin) number → ⊥
rests_nowhere step Learned number wrong named = wrong
rests_nowhere step (Taken sender certificate) number took (k, within, is) = omega arith

-- a pure entry rests on pure ones
pub pure_others : (problem : Problem) (log : List LogEntry) (place : ℕ) → IsPure problem log place → (entry : LogEntry) → slice_get log place ≡ Some entry
    → (other : ℕ) → Contains (rests_on entry.step entry.origin) (length problem.clauses + other) → IsPure problem log other
pure_others problem log place (taken p own got took) entry is other by =
    let P : LogEntry → Type 0 = λ e. IsTaken e.origin in
    absurd (rests_nowhere entry.step entry.origin (length problem.clauses + other) (subst P (same_Some own entry (sym got ∙ is)) took) by)
pure_others problem log place (learned p own got below others) entry is other by =
    let P : LogEntry → Type 0 = λ e. Contains e.step.hints (length problem.clauses + other) in
    others other (subst P (sym (same_Some own entry (sym got ∙ is))) (rests_in entry.step entry.origin (length problem.clauses + other) by))

usable_next : (problem : Problem) (locals : List Kind) (log : List LogEntry) (begins place : ℕ) (step : Step) (origin : Origin) → OriginPasses problem locals log begins place step origin
    → (other : ℕ) → Contains (rests_on step origin) (length problem.clauses + other) → IsPure problem log other ⊎ (begins ≤ other)
usable_next problem locals log begins place step Learned passes other by = at (passes.usable other by)
  where
    at : IsUsable problem log begins place other → IsPure problem log other ⊎ (begins ≤ other)
    at (inl pure) = inl pure
    at (inr later) = inr later.0
usable_next problem locals log begins place step (Taken sender certificate) passes other (k, within, is) = absurd (omega arith)

-- an entry that a step which passes reaches is pure, or of the same turn
pub reached_usable : (problem : Problem) (locals : List Kind) (log : List LogEntry) (begins : ℕ) (last : Step) → LogPasses problem locals log begins
    → LearnedPasses problem locals log begins (length log) last → (place : ℕ) → IsReached (length problem.clauses) log last.hints place → IsPure problem log place ⊎ (begins ≤ place)
reached_usable problem locals log begins last passes ends place (direct p by) = at (ends.usable p by)
  where
    at : IsUsable problem log begins (length log) p → IsPure problem log p ⊎ (begins ≤ p)
    at (inl pure) = inl pure
    at (inr later) = inr later.0
reached_usable problem locals log begins last passes ends place (through p other entry reached got by) = at (reached_usable problem locals log begins last passes ends other reached)
  where
    at : IsPure problem log other ⊎ (begins ≤ other) → IsPure problem log p ⊎ (begins ≤ p)
    at (inl pure) = inl (pure_others problem log other pure entry got p by)
    at (inr later) = usable_next problem locals log begins other entry.step entry.origin (passes.current other entry got later) p by

-- what an entry of a cone brings: a learned one passes with the locals, and a taken one's certificate proves its clause
pub record FitsLearned (problem : Problem) (locals : List Kind) (log : List LogEntry) (place : ℕ) (step : Step) : Type 0 where
  pub hints : All (λ hint. hint < length problem.clauses + place) step.hints
  pub passes : Passes problem.edges (problem.kinds ++ locals) (named (logged problem log) step.hints) step.clause

abbrev pub Fits : Problem → List Kind → List LogEntry → ℕ → Step → Origin → Type 0
Fits problem locals log place step Learned = FitsLearned problem locals log place step
Fits problem locals log place step (Taken sender certificate) = Proves problem (arc_value certificate) step.clause

fits_current : (problem : Problem) (locals : List Kind) (log : List LogEntry) (begins place : ℕ) (step : Step) (origin : Origin) → OriginPasses problem locals log begins place step origin → Fits problem locals log place step origin
fits_current problem locals log begins place step Learned passes = record { hints = passes.hints; passes = passes.passes }
fits_current problem locals log begins place step (Taken sender certificate) passes = passes.proves

pub fits_pure : (problem : Problem) (locals own : List Kind) (log : List LogEntry) (began place : ℕ) (step : Step) (origin : Origin) → NamesBelow (length problem.kinds) step.clause
    → ((other : ℕ) → Contains (rests_on step origin) (length problem.clauses + other) → (entry : LogEntry) → slice_get log other ≡ Some entry → NamesBelow (length problem.kinds) entry.step.clause)
    → All (NamesBelow (length problem.kinds)) problem.clauses → OriginPasses problem own log began place step origin → Fits problem locals log place step origin
fits_pure problem locals own log began place step Learned names others valid passes = record {
  hints = passes.hints;
  passes = passes_bare problem own locals (named (logged problem log) step.hints) step.clause
      (named_logged (NamesBelow (length problem.kinds)) problem log step.hints valid (λ other entry by got. others other by entry got)) names passes.passes;
}
fits_pure problem locals own log began place step (Taken sender certificate) names others valid passes = passes.proves

pub reached_fits : (problem : Problem) (locals : List Kind) (log : List LogEntry) (begins : ℕ) → IsValidProblem problem → LogPasses problem locals log begins
    → (place : ℕ) (entry : LogEntry) → slice_get log place ≡ Some entry → IsPure problem log place ⊎ (begins ≤ place) → Fits problem locals log place entry.step entry.origin
reached_fits problem locals log begins valid passes place entry got (inr later) = fits_current problem locals log begins place entry.step entry.origin (passes.current place entry got later)
reached_fits problem locals log begins valid passes place entry got (inl pure) =
    let some = some_pass problem locals log begins passes place entry got in
    fits_pure problem locals some.0 log some.1 place entry.step entry.origin (pure_below problem locals log begins passes place pure entry got)
    (λ other by e at. pure_below problem locals log begins passes other (pure_others problem log place pure entry got other by) e at) valid.clauses some.2

-- kept entries bring what fits, and rest on kept ones
pub record KeepsFitting (problem : Problem) (locals : List Kind) (log : List LogEntry) (kept : ℕ → Bool) : Type 0 where
  pub fits : (place : ℕ) (entry : LogEntry) → kept place ≡ true → slice_get log place ≡ Some entry → Fits problem locals log place entry.step entry.origin
  pub closed : (place : ℕ) (entry : LogEntry) → kept place ≡ true → slice_get log place ≡ Some entry
      → (other : ℕ) → Contains (rests_on entry.step entry.origin) (length problem.clauses + other) → kept other ≡ true

-- the clauses of the problem and of the steps that the first entries give
abbrev pub so_far : Problem → List LogEntry → (ℕ → Bool) → ℕ → List (List Lit)
so_far problem log kept place = problem.clauses ++ clauses_of (cone_steps (length problem.clauses) kept log place)

pub clauses_moved : (f : ℕ → ℕ) (steps : List Step) → clauses_of (map (with_hints f) steps) ≡ clauses_of steps
clauses_moved f [] = refl
clauses_moved f (step ∷ steps) = ap (λ xs. step.clause ∷ xs) (clauses_moved f steps)

-- the steps of an entry end with its clause
given_ends : (problem : Problem) (locals : List Kind) (log : List LogEntry) (place bases : ℕ) (number : ℕ → ℕ) (before : ℕ) (step : Step) (origin : Origin) → Fits problem locals log place step origin
    → (front : List (List Lit)) × (clauses_of (steps_given bases number before step origin) ≡ front ++ step.clause ∷ [])
given_ends problem locals log place bases number before step Learned fits = ([], refl)
given_ends problem locals log place bases number before step (Taken sender certificate) fits =
    let front : List Step = fits.ends.1.0 in (
      clauses_of front,
      clauses_moved (moved bases before) (arc_value certificate).steps ∙ ap clauses_of (fits.ends.1.1) ∙ map-append (λ (s : Step). s.clause) front (fits.ends.0 ∷ []) ∙ ap (λ c. clauses_of front ++ c ∷ []) (fits.ends.2),
    )

cone_ends : (problem : Problem) (locals : List Kind) (log : List LogEntry) (kept : ℕ → Bool) → KeepsFitting problem locals log kept → (place : ℕ) (entry : LogEntry) → kept place ≡ true → slice_get log place ≡ Some entry
    → (front : List (List Lit)) × (so_far problem log kept (suc place) ≡ front ++ entry.step.clause ∷ [])
cone_ends problem locals log kept fitting place entry keeps got =
    let K : Bool → Option LogEntry → List Step = λ b o. kept_steps (length problem.clauses) (number_of (length problem.clauses) kept log) (steps_before kept log place) b o in
    let cone : List Step = cone_steps (length problem.clauses) kept log place in
    let piece : K (kept place) (slice_get log place) ≡ K true (Some entry) = ap (λ b. K b (slice_get log place)) keeps ∙ ap (λ o. K true o) got in
    let ends = given_ends problem locals log place (length problem.clauses) (number_of (length problem.clauses) kept log) (steps_before kept log place) entry.step entry.origin (fitting.fits place entry keeps got) in
    let parts : clauses_of (cone ++ K (kept place) (slice_get log place)) ≡ clauses_of cone ++ (ends.0 ++ entry.step.clause ∷ []) = map-append (λ (s : Step). s.clause) cone (K (kept place) (slice_get log place)) ∙ ap (λ xs. clauses_of cone ++ clauses_of xs) piece ∙ ap (λ xs. clauses_of cone ++ xs) ends.1 in (
      problem.clauses ++ clauses_of cone ++ ends.0,
      ap (λ xs. problem.clauses ++ xs) parts ∙ sym (append_assoc problem.clauses (clauses_of cone) (ends.0 ++ entry.step.clause ∷ [])) ∙ sym (append_assoc (problem.clauses ++ clauses_of cone) ends.0 (entry.step.clause ∷ [])),
    )

-- a cone of more entries begins with the cone of fewer
pub cone_prefix : (bases : ℕ) (kept : ℕ → Bool) (log : List LogEntry) (fewer more : ℕ) → fewer ≤ more → (rest : List Step) × (cone_steps bases kept log more ≡ cone_steps bases kept log fewer ++ rest)
cone_prefix bases kept log fewer zero within =
    let none : zero ≡ fewer = omega arith in
    ([], ap (λ n. cone_steps bases kept log n) none ∙ sym (append-nil (cone_steps bases kept log fewer)))
cone_prefix bases kept log fewer (suc more) within = at (cases_lt fewer (suc more)) (λ less. cone_prefix bases kept log fewer more less)
  where
    piece : List Step
    piece = kept_steps bases (number_of bases kept log) (steps_before kept log more) (kept more) (slice_get log more)

    at : (fewer < suc more) ⊎ (suc more ≤ fewer) → (fewer ≤ more → (rest : List Step) × (cone_steps bases kept log more ≡ cone_steps bases kept log fewer ++ rest))
        → (rest : List Step) × (cone_steps bases kept log (suc more) ≡ cone_steps bases kept log fewer ++ rest)
    at (inl less) shorter =
        let rest = shorter (omega arith) in
        (rest.0 ++ piece, ap (λ xs. xs ++ piece) rest.1 ∙ append_assoc (cone_steps bases kept log fewer) rest.0 piece)
    at (inr least) shorter =
        let it : suc more ≡ fewer = omega arith in
        ([], ap (λ n. cone_steps bases kept log n) it ∙ sym (append-nil (cone_steps bases kept log fewer)))

last_got : (xs : List (List Lit)) (x : List Lit) → slice_get (xs ++ x ∷ []) (length xs) ≡ Some x
last_got [] x = refl
last_got (y ∷ ys) x = last_got ys x

-- the number of a kept entry names its clause
number_names : (problem : Problem) (locals : List Kind) (log : List LogEntry) (kept : ℕ → Bool) → KeepsFitting problem locals log kept → (other place : ℕ) (entry : LogEntry) → other < place → kept other ≡ true → slice_get log other ≡ Some entry
    → slice_get (so_far problem log kept place) (number_of (length problem.clauses) kept log other) ≡ Some entry.step.clause
number_names problem locals log kept fitting other place entry less keeps got =
    let pre = cone_prefix (length problem.clauses) kept log (suc other) place (omega arith) in
    let ends = cone_ends problem locals log kept fitting other entry keeps got in
    let c : List Lit = entry.step.clause in
    let cone : List Step = cone_steps (length problem.clauses) kept log (suc other) in
    let whole : so_far problem log kept place ≡ (ends.0 ++ c ∷ []) ++ clauses_of pre.0 =
    ap (λ xs. problem.clauses ++ clauses_of xs) pre.1 ∙ ap (λ xs. problem.clauses ++ xs) (map-append (λ (s : Step). s.clause) cone pre.0) ∙ sym (append_assoc problem.clauses (clauses_of cone) (clauses_of pre.0)) ∙ ap (λ xs. xs ++ clauses_of pre.0) ends.1
    in
    let long : length (ends.0 ++ c ∷ []) ≡ length problem.clauses + steps_before kept log (suc other) =
    ap length (sym ends.1) ∙ length-append problem.clauses (clauses_of cone) ∙ ap (λ n. length problem.clauses + n) (length-map cone (λ (s : Step). s.clause) ∙ length_cone (length problem.clauses) kept log (suc other))
    in
    let place_is : number_of (length problem.clauses) kept log other ≡ length ends.0 = number_is (length problem.clauses + steps_before kept log (suc other)) (length ends.0) (sym long ∙ length-append ends.0 (c ∷ [])) in
    ap (λ n. slice_get (so_far problem log kept place) n) place_is ∙ ap (λ xs. slice_get xs (length ends.0)) whole ∙ got_front (ends.0 ++ c ∷ []) (clauses_of pre.0) (length ends.0) c (last_got ends.0 c)
  where
    number_is : (a b : ℕ) → a ≡ b + 1 → a - 1 ≡ b
    number_is a b is = omega arith

-- renumbered hints name in a cone what the hints named in the log
renumbered_alike : (problem : Problem) (locals : List Kind) (log : List LogEntry) (kept : ℕ → Bool) → KeepsFitting problem locals log kept → (place : ℕ) (hints : List ℕ)
    → All (λ hint. hint < length problem.clauses + place) hints → ((other : ℕ) → Contains hints (length problem.clauses + other) → kept other ≡ true)
    → NamesAlike (logged problem log) (so_far problem log kept place) (renumbered (length problem.clauses) (number_of (length problem.clauses) kept log)) hints
renumbered_alike problem locals log kept fitting place hints within keeps hint clause is got = at (joined_cases (λ (entry : LogEntry). entry.step.clause) problem.clauses log hint clause got)
  where
    stays : (b : Bool) → nat_lt hint (length problem.clauses) ≡ b → hint < length problem.clauses → renumbered (length problem.clauses) (number_of (length problem.clauses) kept log) hint ≡ hint
    stays true e less = rw e refl
    stays false e less = absurd (let least : length problem.clauses ≤ hint = grind (arith, nat_tests) in omega arith)

    moves : (b : Bool) → nat_lt hint (length problem.clauses) ≡ b → (other : ℕ) → length problem.clauses + other ≡ hint
        → renumbered (length problem.clauses) (number_of (length problem.clauses) kept log) hint ≡ number_of (length problem.clauses) kept log other
    moves true e other at = absurd (let less : hint < length problem.clauses = grind (arith, nat_tests) in omega arith)
    moves false e other at = let it : hint - length problem.clauses ≡ other = omega arith in rw e (ap (λ n. number_of (length problem.clauses) kept log n) it)

    at : (slice_get problem.clauses hint ≡ Some clause) ⊎ ((other : ℕ) × (entry : LogEntry) × (length problem.clauses + other ≡ hint) × (slice_get log other ≡ Some entry) × (entry.step.clause ≡ clause))
        → slice_get (so_far problem log kept place) (renumbered (length problem.clauses) (number_of (length problem.clauses) kept log) hint) ≡ Some clause
    at (inl base) =
        ap (λ n. slice_get (so_far problem log kept place) n) (stays (nat_lt hint (length problem.clauses)) refl (slice_get_within problem.clauses hint clause base))
        ∙ got_front problem.clauses (clauses_of (cone_steps (length problem.clauses) kept log place)) hint clause base
    at (inr (other, entry, there, at_other, same)) =
        let less : hint < length problem.clauses + place = All-contains (λ h. h < length problem.clauses + place) hints hint within is in
        let named_so : Contains hints (length problem.clauses + other) = subst (Contains hints) (sym there) is in
        ap (λ n. slice_get (so_far problem log kept place) n) (moves (nat_lt hint (length problem.clauses)) refl other there)
        ∙ number_names problem locals log kept fitting other place entry (omega arith) (keeps other named_so) at_other
        ∙ ap (λ c. Some c) same

-- a hint 0 more names no entry
based_names : (hints : List ℕ) (bases other : ℕ) → Contains (based hints bases) (bases + other) → Contains hints (bases + other)
based_names [] zero other by = by
based_names [] (suc others) other (zero, within, is) = absurd (omega (arith, is))
based_names [] (suc others) other (suc k, within, is) = absurd (omega (arith, within))
based_names (hint ∷ hints) bases other by = by

-- and what hints name without it they name with it
based_more : (clauses : List (List Lit)) (hints : List ℕ) (bases : ℕ) → All (Contains (named clauses (based hints bases))) (named clauses hints)
based_more clauses [] bases = All-nil (Contains (named clauses (based [] bases)))
based_more clauses (hint ∷ hints) bases = All-contains_itself (named clauses (hint ∷ hints))

-- a step without hints rests on no clause in a log, so with a hint it passes too
fits_based : (problem : Problem) (locals : List Kind) (log : List LogEntry) (place : ℕ) (step : Step) → FitsLearned problem locals log place step → FitsLearned problem locals log place (with_base (length problem.clauses) step)
fits_based problem locals log place step fits = record {
  hints = based_all (λ hint. hint < length problem.clauses + place) step.hints (length problem.clauses) (λ some. omega (arith, some)) fits.hints;
  passes = more_pass problem.edges (problem.kinds ++ locals) (named (logged problem log) step.hints) (named (logged problem log) (based step.hints (length problem.clauses))) step.clause step.clause
      (based_more (logged problem log) step.hints (length problem.clauses)) (All-contains_itself step.clause) fits.passes.in_range fits.passes;
}

-- the steps of an entry check after those before it
pub given_checks : (problem : Problem) (locals : List Kind) (log : List LogEntry) (kept : ℕ → Bool) → KeepsFitting problem locals log kept → IsValidProblem problem → (place : ℕ) → place ≤ length log → (step : Step) (origin : Origin)
    → Fits problem locals log place step origin → ((other : ℕ) → Contains (rests_on step origin) (length problem.clauses + other) → kept other ≡ true)
    → StepsCheck problem.edges (problem.kinds ++ locals) (so_far problem log kept place)
    (steps_given (length problem.clauses) (number_of (length problem.clauses) kept log) (steps_before kept log place) step origin)
given_checks problem locals log kept fitting valid place within step Learned fits keeps =
    let bases : ℕ = length problem.clauses in
    let own : FitsLearned problem locals log place (with_base bases step) = fits_based problem locals log place step fits in
    let long : length (logged problem log) ≡ bases + length log = length-append problem.clauses (map (λ (entry : LogEntry). entry.step.clause) log) ∙ ap (λ n. bases + n) (length-map log (λ (entry : LogEntry). entry.step.clause)) in
    let hints : All (λ hint. hint < length (logged problem log)) (based step.hints bases) = All-weaker (λ hint. hint < bases + place) (λ hint. hint < length (logged problem log)) (λ hint less. omega (arith, long)) (based step.hints bases) own.hints in (
      named_checks problem.edges (problem.kinds ++ locals) (logged problem log) (so_far problem log kept place) (renumbered bases (number_of bases kept log)) (with_base bases step)
          (renumbered_alike problem locals log kept fitting place (based step.hints bases) own.hints (λ other by. keeps other (based_names step.hints bases other by))) hints own.passes,
      tt,
    )
given_checks problem locals log kept fitting valid place within step (Taken sender certificate) fits keeps =
    let added : List (List Lit) = clauses_of (cone_steps (length problem.clauses) kept log place) in
    let wide : StepsCheck problem.edges (problem.kinds ++ locals) problem.clauses (arc_value certificate).steps = check_wide problem locals problem.clauses (arc_value certificate).steps valid.clauses fits.checks in
    let P : List (List Lit) → Type 0 = λ xs. StepsCheck problem.edges (problem.kinds ++ locals) xs (arc_value certificate).steps in
    let after : StepsCheck problem.edges (problem.kinds ++ locals) (problem.clauses ++ added ++ []) (map (with_hints (moved (length problem.clauses) (length added))) (arc_value certificate).steps) =
    check_moved problem.edges (problem.kinds ++ locals) problem.clauses added [] (arc_value certificate).steps (subst P (sym (append-nil problem.clauses)) wide)
    in
    let long : length added ≡ steps_before kept log place = length-map (cone_steps (length problem.clauses) kept log place) (λ (s : Step). s.clause) ∙ length_cone (length problem.clauses) kept log place in
    let Q : List (List Lit) → Type 0 = λ xs. StepsCheck problem.edges (problem.kinds ++ locals) xs (map (with_hints (moved (length problem.clauses) (length added))) (arc_value certificate).steps) in
    let R : ℕ → Type 0 = λ n. StepsCheck problem.edges (problem.kinds ++ locals) (so_far problem log kept place) (map (with_hints (moved (length problem.clauses) n)) (arc_value certificate).steps) in
    subst R long (subst Q (append-nil (problem.clauses ++ added)) after)

-- the steps that the first entries give check
pub cone_checked : (problem : Problem) (locals : List Kind) (log : List LogEntry) (kept : ℕ → Bool) → KeepsFitting problem locals log kept → IsValidProblem problem → (place : ℕ)
    → StepsCheck problem.edges (problem.kinds ++ locals) problem.clauses (cone_steps (length problem.clauses) kept log place)
cone_checked problem locals log kept fitting valid zero = tt
cone_checked problem locals log kept fitting valid (suc place) =
    check_append problem.edges (problem.kinds ++ locals) problem.clauses (cone_steps (length problem.clauses) kept log place)
    (kept_steps (length problem.clauses) (number_of (length problem.clauses) kept log) (steps_before kept log place) (kept place) (slice_get log place))
    (cone_checked problem locals log kept fitting valid place) (at (kept place) refl (slice_get log place) refl)
  where
    at : (b : Bool) → kept place ≡ b → (o : Option LogEntry) → slice_get log place ≡ o
        → StepsCheck problem.edges (problem.kinds ++ locals) (so_far problem log kept place) (kept_steps (length problem.clauses) (number_of (length problem.clauses) kept log) (steps_before kept log place) b o)
    at false keeps o got = tt
    at true keeps None got = tt
    at true keeps (Some entry) got =
        let within : place < length log = slice_get_within log place entry got in
        given_checks problem locals log kept fitting valid place (omega arith) entry.step entry.origin (fitting.fits place entry keeps got) (fitting.closed place entry keeps got)

pub coning : ConeChecks
coning problem query log begins last certificate valid passes ends cone =
    let fitting : KeepsFitting problem query.locals log cone.kept = record {
      fits = λ place entry keeps got. reached_fits problem query.locals log begins valid passes place entry got (reached_usable problem query.locals log begins last passes ends place ((cone.reached place).0 keeps));
      closed = λ place entry keeps got other by. (cone.reached other).1 (through other place entry ((cone.reached place).0 keeps) got by);
    } in
    let P : List Step → Type 0 = λ steps. StepsCheck problem.edges (problem.kinds ++ query.locals) problem.clauses steps in
    subst P (sym cone.steps)
    (check_append problem.edges (problem.kinds ++ query.locals) problem.clauses (cone_steps (length problem.clauses) cone.kept log (length log))
    (cone_step (length problem.clauses) (number_of (length problem.clauses) cone.kept log) last ∷ []) (cone_checked problem query.locals log cone.kept fitting valid (length log))
    (given_checks problem query.locals log cone.kept fitting valid (length log) (omega arith) last Learned (record { hints = ends.hints; passes = ends.passes }) (λ other by. (cone.reached other).1 (direct other by))))
