-- The loops that test the steps of a certificate and of a shared list.
use Rattle.std.proofs.Common.{Bool, false, Option, None, Some, IsTrue, ◌==◌, ◌≡◌, ℕ, ◌+◌, ◌-◌, ◌<◌, ◌≤◌, List, [], ◌∷◌, ◌++◌, length, take, drop, get_or, All, ◌↔◌, refl, ap, sym, ◌∙◌, subst, arith}
use Rattle.std.proofs.lemmas.Bool.{false≢true}
use Rattle.std.proofs.lemmas.List.{append-nil, append_assoc, length-append, length-map, take_more, take_all, take-append-drop, map-append}
use Rattle.std.proofs.lemmas.List.Elements.{All-append, All-weaker}
use Rattle.std.specs.List.{slice_get}
use Rattle.std.specs.Option.{MatchOption}
use Rattle.gp_clause.specs.declared.edge.Edge.{Edge}
use Rattle.gp_clause.specs.declared.kind.Kind.{Kind}
use Rattle.gp_clause.specs.declared.lit.Lit.{Lit}
use Rattle.gp_clause.specs.declared.problem.Problem.{Problem}
use Rattle.gp_clause.specs.Clause.{NamesBelow}
use Rattle.gp_certificate.specs.declared.step.Step.{Step}
use Rattle.gp_certificate.specs.Certificate.{clauses_of, usable, StepPasses}
use Rattle.gp_certificate.specs.CheckingLaws.{steps_within}
use Rattle.gp_certificate.specs.Shared.{OwnStepsPass, SharedPasses, FirstFails, FirstOwnFails}
use Rattle.gp_certificate.specs.Bench.{BenchForm, HasLoaded, HasTested}
use Rattle.gp_certificate.specs.Step.{Passes, named}
use Rattle.gp_base.specs.ListLaws.{slice_get_back}
use Rattle.gp_certificate.proofs.Sharing.{checks_alone}

-- own steps, one part after the other
own_parts : (edges : List Edge) (kinds : List Kind) (base shared own : List (List Lit)) (steps more : List Step)
    → OwnStepsPass edges kinds base shared own (steps ++ more) ↔ (OwnStepsPass edges kinds base shared own steps × OwnStepsPass edges kinds base shared (own ++ clauses_of steps) more)
own_parts edges kinds base shared own [] more =
    let P : List (List Lit) → Type 0 = λ cs. OwnStepsPass edges kinds base shared cs more in
    (λ h. (tt, subst P (sym (append-nil own)) h), λ h. subst P (append-nil own) h.1)
own_parts edges kinds base shared own (step ∷ steps) more =
    let rest = own_parts edges kinds base shared (own ++ step.clause ∷ []) steps more in
    let P : List (List Lit) → Type 0 = λ cs. OwnStepsPass edges kinds base shared cs more in
    let same : own ++ step.clause ∷ [] ++ clauses_of steps ≡ own ++ (step.clause ∷ clauses_of steps) = append_assoc own (step.clause ∷ []) (clauses_of steps) in (
      λ h. let parts = rest.0 h.1 in ((h.0, parts.0), subst P same parts.1),
      λ h. (h.0.0, rest.1 (h.0.1, subst P (sym same) h.1)),
    )

-- the first steps and the next one
next_step : (steps : List Step) (i : ℕ) (step : Step) → i < length steps → step ≡ get_or steps i step → take (i + 1) steps ≡ take i steps ++ step ∷ []
next_step steps i step within is = take_more steps i step within ∙ ap (λ s. take i steps ++ s ∷ []) (sym is)

pub passed_more : (edges : List Edge) (kinds : List Kind) (base shared : List (List Lit)) (steps : List Step) (i : ℕ) (step : Step) → i < length steps → step ≡ get_or steps i step
    → StepPasses edges kinds (base ++ shared ++ clauses_of (take i steps)) (base ++ clauses_of (take i steps)) step
    → OwnStepsPass edges kinds base shared [] (take i steps) → OwnStepsPass edges kinds base shared [] (take (i + 1) steps)
passed_more edges kinds base shared steps i step within is passes passed =
    let P : List Step → Type 0 = λ ss. OwnStepsPass edges kinds base shared [] ss in
    subst P (sym (next_step steps i step within is)) ((own_parts edges kinds base shared [] (take i steps) (step ∷ [])).1 (passed, (passes, tt)))

-- where the next step fails, so do the first steps with it
pub fails_next : (edges : List Edge) (kinds : List Kind) (base shared : List (List Lit)) (steps : List Step) (i : ℕ) (step : Step) → i < length steps → step ≡ get_or steps i step
    → (StepPasses edges kinds (base ++ shared ++ clauses_of (take i steps)) (base ++ clauses_of (take i steps)) step → ⊥) → OwnStepsPass edges kinds base shared [] (take (i + 1) steps) → ⊥
fails_next edges kinds base shared steps i step within is fails passed =
    let P : List Step → Type 0 = λ ss. OwnStepsPass edges kinds base shared [] ss in
    fails ((own_parts edges kinds base shared [] (take i steps) (step ∷ [])).0 (subst P (next_step steps i step within is) passed)).1.0

-- where some steps pass, so do the first of them
pub passed_first : (edges : List Edge) (kinds : List Kind) (base shared : List (List Lit)) (steps : List Step) (i : ℕ) → OwnStepsPass edges kinds base shared [] steps
    → OwnStepsPass edges kinds base shared [] (take i steps)
passed_first edges kinds base shared steps i passed =
    let P : List Step → Type 0 = λ ss. OwnStepsPass edges kinds base shared [] ss in
    ((own_parts edges kinds base shared [] (take i steps) (drop i steps)).0 (subst P (sym (take-append-drop i steps)) passed)).0

-- the first of a shared list that fails, seen as an own step
pub first_fails : (problem : Problem) (steps : List Step) (place : ℕ) → FirstOwnFails problem.edges problem.kinds problem.clauses [] steps place → FirstFails problem steps place
first_fails problem steps place first = record {
  before = (checks_alone problem.edges problem.kinds problem.clauses (take place steps)).0 first.before;
  within = first.within;
  fails = λ checks. first.fails ((checks_alone problem.edges problem.kinds problem.clauses (take (place + 1) steps)).1 checks);
}

pub passed_all : (edges : List Edge) (kinds : List Kind) (base shared : List (List Lit)) (steps : List Step) (i : ℕ) → length steps ≤ i → OwnStepsPass edges kinds base shared [] (take i steps)
    → OwnStepsPass edges kinds base shared [] steps
passed_all edges kinds base shared steps i end passed = let P : List Step → Type 0 = λ ss. OwnStepsPass edges kinds base shared [] ss in subst P (take_all i steps end) passed

pub numbered_within : (edges : List Edge) (kinds : List Kind) (base shared : List (List Lit)) (steps : List Step) → All (NamesBelow (length kinds)) base → All (NamesBelow (length kinds)) shared
    → OwnStepsPass edges kinds base shared [] steps → All (NamesBelow (length kinds)) (base ++ shared ++ clauses_of steps)
numbered_within edges kinds base shared steps bases shares passed =
    All-append (NamesBelow (length kinds)) (base ++ shared) (clauses_of steps) (All-append (NamesBelow (length kinds)) base shared bases shares) (steps_within edges kinds (λ clauses. base ++ shared ++ clauses) (λ clauses. base ++ clauses) [] steps passed)

-- clauses with few variables have no more
pub names_fewer : (n m : ℕ) (clauses : List (List Lit)) → n ≤ m → All (NamesBelow n) clauses → All (NamesBelow m) clauses
names_fewer n m clauses more all =
    All-weaker (NamesBelow n) (NamesBelow m) (λ clause below k d within. let first : (get_or clause k d).variable < n = below k d within in omega (arith, first, more)) clauses all

-- the clause of an own step by its number
pub own_number : (base : List (List Lit)) (shared own : List Step) (number : ℕ) → length base ≤ number → length shared ≤ number - length base
    → slice_get (base ++ clauses_of shared ++ clauses_of own) number ≡ slice_get (clauses_of own) (number - length base - length shared)
own_number base shared own number past_base past_shared =
    let k : ℕ = number - length base - length shared in
    let whole_length : length (base ++ clauses_of shared) ≡ length base + length shared =
    length-append base (clauses_of shared) ∙ ap (λ n. length base + n) (length-map shared (λ (step : Step). step.clause)) in
    let at : length (base ++ clauses_of shared) + k ≡ number = omega arith in
    ap (λ n. slice_get (base ++ clauses_of shared ++ clauses_of own) n) (sym at) ∙ slice_get_back (base ++ clauses_of shared) (clauses_of own) k

-- the same of the same
pub own_same : (edges edges' : List Edge) (kinds kinds' : List Kind) (base base' shared : List (List Lit)) (steps steps' : List Step) → edges ≡ edges' → kinds ≡ kinds' → base ≡ base' → steps ≡ steps'
    → OwnStepsPass edges kinds base shared [] steps → OwnStepsPass edges' kinds' base' shared [] steps'
own_same edges edges' kinds kinds' base base' shared steps steps' edges_is kinds_is base_is steps_is passed =
    subst (λ es. OwnStepsPass es kinds' base' shared [] steps') edges_is (subst (λ ks. OwnStepsPass edges ks base' shared [] steps') kinds_is
    (subst (λ cs. OwnStepsPass edges kinds cs shared [] steps') base_is (subst (λ ss. OwnStepsPass edges kinds base shared [] ss) steps_is passed)))

pub fails_same : (edges edges' : List Edge) (kinds kinds' : List Kind) (base base' shared : List (List Lit)) (steps : List Step) (place : ℕ) → edges ≡ edges' → kinds ≡ kinds' → base ≡ base'
    → FirstOwnFails edges kinds base shared steps place → FirstOwnFails edges' kinds' base' shared steps place
fails_same edges edges' kinds kinds' base base' shared steps place edges_is kinds_is base_is fails =
    subst (λ es. FirstOwnFails es kinds' base' shared steps place) edges_is (subst (λ ks. FirstOwnFails edges ks base' shared steps place) kinds_is
    (subst (λ cs. FirstOwnFails edges kinds cs shared steps place) base_is fails))

pub shared_passes : (problem : Problem) (steps : List Step) → OwnStepsPass problem.edges problem.kinds problem.clauses [] [] steps → SharedPasses problem steps
shared_passes problem steps passed = (checks_alone problem.edges problem.kinds problem.clauses steps).0 passed

-- how many clauses are numbered
pub numbered_count : (base : List (List Lit)) (shared own : List Step) → length (base ++ clauses_of shared ++ clauses_of own) ≡ length base + length shared + length own
numbered_count base shared own =
    let first = length-append base (clauses_of shared) in
    let whole = length-append (base ++ clauses_of shared) (clauses_of own) in
    let one = length-map shared (λ (step : Step). step.clause) in
    let two = length-map own (λ (step : Step). step.clause) in
    omega (arith, first, whole, one, two)

usable_named : (numbered unnamed : List (List Lit)) (hints : List ℕ) → (length hints == 0) ≡ false → usable numbered unnamed hints ≡ named numbered hints
usable_named numbered unnamed [] none = absurd (false≢true (sym none))
usable_named numbered unnamed (hint ∷ hints) some = refl

-- a step with hints passes where its clause does with what they name
pub step_by_hints : (edges : List Edge) (kinds : List Kind) (numbered unnamed : List (List Lit)) (step : Step) (told : Bool) → All (λ hint. hint < length numbered) step.hints → (length step.hints == 0) ≡ false
    → IsTrue told ↔ Passes edges kinds (named numbered step.hints) step.clause → IsTrue told ↔ StepPasses edges kinds numbered unnamed step
step_by_hints edges kinds numbered unnamed step told below some passes =
    let P : List (List Lit) → Type 0 = λ cs. Passes edges kinds cs step.clause in
    let same : usable numbered unnamed step.hints ≡ named numbered step.hints = usable_named numbered unnamed step.hints some in
    (λ is. record { hints = below; passes = subst P (sym same) (passes.0 is) }, λ step_passes. passes.1 (subst P same step_passes.passes))

-- one more own clause is loaded
pub all_more : (start now new : BenchForm) (base : List (List Lit)) (own : List Step) (i : ℕ) (step : Step) (clause : List Lit) → i < length own → step ≡ get_or own i step → clause ≡ step.clause
    → now ≡ record start { loaded = base ++ clauses_of (take i own) } → new ≡ record now { loaded = now.loaded ++ clause ∷ [] } → new ≡ record start { loaded = base ++ clauses_of (take (i + 1) own) }
all_more start now new base own i step clause within is same before pushed =
    let P : BenchForm → BenchForm = λ b. record b { loaded = b.loaded ++ clause ∷ [] } in
    let Q : List (List Lit) → BenchForm = λ cs. record start { loaded = cs } in
    let next : clauses_of (take (i + 1) own) ≡ clauses_of (take i own) ++ step.clause ∷ [] =
    ap clauses_of (next_step own i step within is) ∙ map-append (λ (s : Step). s.clause) (take i own) (step ∷ []) in
    let whole : base ++ clauses_of (take i own) ++ clause ∷ [] ≡ base ++ clauses_of (take (i + 1) own) =
    append_assoc base (clauses_of (take i own)) (clause ∷ []) ∙ ap (λ c. base ++ (clauses_of (take i own) ++ c ∷ [])) same ∙ ap (λ cs. base ++ cs) (sym next) in
    pushed ∙ ap P before ∙ ap Q whole

-- clauses are loaded on top of those with which a bench began
pub loaded_after : (start old new : BenchForm) (base more : List (List Lit)) → old ≡ record start { loaded = base } → new ≡ record start { loaded = base ++ more } → HasLoaded old new
loaded_after start old new base more before after = (more, after ∙ ap (λ (b : BenchForm). record b { loaded = b.loaded ++ more }) (sym before))

-- a bench from which all was unloaded that was loaded is as before
pub cleared_same : (start loaded cleared : BenchForm) → start.loaded ≡ [] → loaded ≡ record start { loaded = loaded.loaded } → cleared ≡ record loaded { loaded = [] } → cleared ≡ start
cleared_same start loaded cleared empty was is = is ∙ ap (λ (b : BenchForm). record b { loaded = [] }) was ∙ ap (λ (cs : List (List Lit)). record start { loaded = cs }) (sym empty)

-- nothing was loaded
pub tested_none : (old new : BenchForm) (kinds : List Kind) → new ≡ record old { kinds = kinds } → HasTested old new
tested_none old new kinds is = (kinds, ([], is ∙ ap (λ (cs : List (List Lit)). record old { kinds = kinds; loaded = cs }) (sym (append-nil old.loaded))))

-- the first of a shared list that fails, or none, seen as own steps
pub shared_first : (problem : Problem) (steps : List Step) (first : Option ℕ)
    → MatchOption first (OwnStepsPass problem.edges (problem.kinds ++ []) problem.clauses [] [] steps) (FirstOwnFails problem.edges (problem.kinds ++ []) problem.clauses [] steps)
    → MatchOption first (SharedPasses problem steps) (FirstFails problem steps)
shared_first problem steps None passed =
    shared_passes problem steps (own_same problem.edges problem.edges (problem.kinds ++ []) problem.kinds problem.clauses problem.clauses [] steps steps refl (append-nil problem.kinds) refl refl passed)
shared_first problem steps (Some place) fails =
    first_fails problem steps place (fails_same problem.edges problem.edges (problem.kinds ++ []) problem.kinds problem.clauses problem.clauses [] steps place refl (append-nil problem.kinds) refl fails)
