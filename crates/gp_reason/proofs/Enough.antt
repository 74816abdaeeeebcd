-- What is told is enough: each step that is told passes with what is told before it.
use Rattle.std.proofs.Common.{ℕ, zero, suc, ◌≡◌, ◌+◌, ◌<◌, ◌≤◌, refl, ap, sym, ◌∙◌, subst, inl, inr, arith, true, List, [], ◌∷◌, ◌++◌, append_assoc, All, Contains, length, map}
use Rattle.std.specs.Prelude.{◌⊎◌, ◌==◌, Some, slice_get}
use Rattle.std.specs.List.{list_any}
use Rattle.std.proofs.lemmas.Bool.{eq-eqb, le-leb, or_left, or_right}
use Rattle.std.proofs.lemmas.List.{append-nil, length-append, length-map, length_push, map-append}
use Rattle.std.proofs.lemmas.List.Elements.{All-append, All-contains_itself, All-push, Contains-append_cases, Contains-append_left, Contains-append_right}
use Rattle.std.proofs.lemmas.Option.{none-some, same_Some, slice_get_within}
use Rattle.gp_base.specs.ListLaws.{all_from_contains, contains_from_map, contains_got, contains_map, contains_middle, contains_parts, first_or_rest, got_front, here, joined_cases, nothing_in, Pairwise, recursion_at, slice_get_front, there}
use Rattle.gp_certificate.specs.declared.certificate.Certificate.{Certificate}
use Rattle.gp_certificate.specs.declared.step.Step.{Step}
use Rattle.gp_certificate.specs.Certificate.{clauses_of, StepsCheck, StepsPass, usable}
use Rattle.gp_certificate.specs.NamedLaws.{named_all, usable_all}
use Rattle.gp_certificate.specs.PassingLaws.{passes_alike}
use Rattle.gp_certificate.specs.Shared.{ChecksOver}
use Rattle.gp_certificate.specs.Step.{MorePasses, Passes}
use Rattle.gp_clause.specs.declared.edge.Edge.{Edge}
use Rattle.gp_clause.specs.declared.kind.Kind.{Kind}
use Rattle.gp_clause.specs.declared.lit.Lit.{Lit}
use Rattle.gp_clause.specs.declared.problem.Problem.{Problem}
use Rattle.gp_clause.specs.declared.problem.Query.{Query}
use Rattle.gp_clause.specs.Clause.{NamesBelow}
use Rattle.gp_clause.specs.Problem.{IsValidProblem}
use Rattle.gp_reason.specs.Told.{all_steps, cites, hints_cite, numbered, numbered_from, NumberedStep, told_of}
use Rattle.gp_reason.proofs.Resting.{closed_told, Rises, told_once, told_within}

-- clauses that have each one that a step cites
abbrev pub HasCited : List NumberedStep → List (List Lit) → NumberedStep → Type 0
HasCited all more step = (earlier : NumberedStep) → Contains all earlier → earlier.number < step.number → cites earlier.number step ≡ true → Contains more earlier.step.clause

-- clauses that have each base one that the hints of a step number, and where it has none all of them
abbrev pub HasBase : List (List Lit) → List (List Lit) → NumberedStep → Type 0
HasBase base more step = (hint : ℕ) (clause : List Lit) → slice_get base hint ≡ Some clause → Contains step.step.hints hint ⊎ (step.step.hints ≡ []) → Contains more clause

-- a step passes with all clauses that have the base ones and those of steps that it cites
abbrev pub IsEnough : List Edge → List Kind → List (List Lit) → List NumberedStep → NumberedStep → Type 0
IsEnough edges kinds base all step = (more : List (List Lit)) → HasBase base more step → HasCited all more step → Passes edges kinds more step.step.clause

-- a hint is cited
hint_among : (hint : ℕ) (hints : List ℕ) → Contains hints hint → list_any (λ other. other == hint) hints ≡ true
hint_among hint [] i = absurd (nothing_in hint i)
hint_among hint (head ∷ hints) i =
    elim (first_or_rest head hints hint i) [
      | inl same ↦ or_left (head == hint) (list_any (λ other. other == hint) hints) (eq-eqb head hint same)
      | inr more ↦ or_right (head == hint) (list_any (λ other. other == hint) hints) (hint_among hint hints more)
    ]

hint_cited : (first hint : ℕ) (hints : List ℕ) → Contains hints hint → hints_cite first hint hints ≡ true
hint_cited first hint [] i = absurd (nothing_in hint i)
hint_cited first hint (head ∷ hints) i = hint_among hint (head ∷ hints) i

-- without hints all steps of the list are
list_cited : (first number : ℕ) (hints : List ℕ) → hints ≡ [] → first ≤ number → hints_cite first number hints ≡ true
list_cited first number hints none from = ap (hints_cite first number) none ∙ le-leb first number from

-- clauses that have each one that hints number, and where there are no hints all that need no number, have what a step may use
uses_within : (more cited free : List (List Lit)) (hints : List ℕ) → ((hint : ℕ) (clause : List Lit) → Contains hints hint → slice_get cited hint ≡ Some clause → Contains more clause)
    → (hints ≡ [] → All (Contains more) free) → All (Contains more) (usable cited free hints)
uses_within more cited free [] each all = all refl
uses_within more cited free (hint ∷ hints) each all = named_all (Contains more) cited (hint ∷ hints) each

-- a step by its place in its list
numbered_got : (first start place : ℕ) (steps : List Step) (step : Step) → slice_get steps place ≡ Some step
    → Contains (numbered_from first start steps) (record { first = first; number = start + place; step = step })
numbered_got first start place [] step got = absurd (none-some step got)
numbered_got first start zero (head ∷ steps) step got =
    let same : head ≡ step = same_Some head step got in
    let at : start ≡ start + zero = omega arith in
    subst (λ (s : NumberedStep). Contains (numbered_from first start (head ∷ steps)) s) (λ i. record { first = first; number = at i; step = same i })
    (here (record { first = first; number = start; step = head }) (numbered_from first (suc start) steps))
numbered_got first start (suc place) (head ∷ steps) step got =
    let at : suc start + place ≡ start + suc place = omega arith in
    there (record { first = first; number = start; step = head }) (numbered_from first (suc start) steps) (record { first = first; number = start + suc place; step = step })
    (subst (λ (n : ℕ). Contains (numbered_from first (suc start) steps) (record { first = first; number = n; step = step })) at (numbered_got first (suc start) place steps step got))

-- an element by some place
some_place : {X : Type 0} (steps : List X) (step : X) → Contains steps step → (place : ℕ) × (slice_get steps place ≡ Some step)
some_place [] step i = absurd (nothing_in step i)
some_place (head ∷ steps) step i =
    elim (first_or_rest head steps step i) [
      | inl same ↦ (zero, ap Some same)
      | inr more ↦ let rest = some_place steps step more in (suc rest.0, rest.1)
    ]

-- clauses with numbers below those of a list of steps are base clauses, or those of steps with these numbers
abbrev IsPrior : List (List Lit) → List NumberedStep → List (List Lit) → Type 0
IsPrior base all prior = (hint : ℕ) (clause : List Lit) → slice_get prior hint ≡ Some clause
    → (slice_get base hint ≡ Some clause) ⊎ ((earlier : NumberedStep) × Contains all earlier × (earlier.number ≡ hint) × (earlier.step.clause ≡ clause))

-- one step, behind some of its list
step_enough : MorePasses → (edges : List Edge) (kinds : List Kind) (base prior : List (List Lit)) (first : ℕ) (all : List NumberedStep) (front : List Step) (step : Step) (number : ℕ)
    → number ≡ first + length front → first ≡ length prior → IsPrior base all prior
    → ((place : ℕ) (own : Step) → slice_get front place ≡ Some own → Contains all (record { first = first; number = first + place; step = own }))
    → Passes edges kinds (usable (prior ++ clauses_of front) (base ++ clauses_of front) step.hints) step.clause
    → IsEnough edges kinds base all (record { first = first; number = number; step = step })
step_enough more_pass edges kinds base prior first all front step number is size known own passes more bases cited =
    more_pass edges kinds (usable (prior ++ clauses_of front) (base ++ clauses_of front) step.hints) more step.clause step.clause
    (uses_within more (prior ++ clauses_of front) (base ++ clauses_of front) step.hints hinted free) (All-contains_itself step.clause) passes.in_range passes
  where
    hinted : (hint : ℕ) (clause : List Lit) → Contains step.hints hint → slice_get (prior ++ clauses_of front) hint ≡ Some clause → Contains more clause
    hinted hint clause i got =
        elim (joined_cases (λ (s : Step). s.clause) prior front hint clause got) [
          | inl early ↦ elim (known hint clause early) [
            | inl among ↦ bases hint clause among (inl i)
            | inr found ↦
                let within : hint < length prior = slice_get_within prior hint clause early in
                let below : found.0.number < number = let at : found.0.number ≡ hint = found.2 in omega (arith, at, within, size, is) in
                subst (Contains more) found.3
                (cited found.0 found.1 below (subst (λ (n : ℕ). hints_cite first n step.hints ≡ true) (sym found.2) (hint_cited first hint step.hints i)))
          ]
          | inr late ↦
              let within : late.0 < length front = slice_get_within front late.0 late.1 late.3 in
              let at : first + late.0 ≡ hint = let there_at : length prior + late.0 ≡ hint = late.2 in omega (arith, there_at, size) in
              subst (Contains more) late.4
              (cited (record { first = first; number = first + late.0; step = late.1 }) (own late.0 late.1 late.3) (omega (arith, within, is))
              (subst (λ (n : ℕ). hints_cite first n step.hints ≡ true) (sym at) (hint_cited first hint step.hints i)))
        ]

    free : step.hints ≡ [] → All (Contains more) (base ++ clauses_of front)
    free none =
        All-append (Contains more) base (clauses_of front)
        (all_from_contains (Contains more) base (λ clause i. let at = some_place base clause i in bases at.0 clause at.1 (inr none)))
        (all_from_contains (Contains more) (clauses_of front) (λ clause i.
        let from = contains_from_map (λ (s : Step). s.clause) front clause i in
        let at = some_place front from.0 from.1 in
        let within : at.0 < length front = slice_get_within front at.0 from.0 at.1 in
        subst (Contains more) from.2
        (cited (record { first = first; number = first + at.0; step = from.0 }) (own at.0 from.0 at.1) (omega (arith, within, is))
        (list_cited first (first + at.0) step.hints none (omega arith)))))

-- the own steps of a certificate, behind some of them
own_enough : MorePasses → (edges : List Edge) (kinds : List Kind) (base prior : List (List Lit)) (first start : ℕ) (all : List NumberedStep) (own front rest : List Step)
    → own ≡ front ++ rest → start ≡ first + length front → first ≡ length prior → IsPrior base all prior
    → ((place : ℕ) (step : Step) → slice_get own place ≡ Some step → Contains all (record { first = first; number = first + place; step = step }))
    → StepsPass edges kinds (λ clauses. prior ++ clauses) (λ clauses. base ++ clauses) (clauses_of front) rest
    → (step : NumberedStep) → Contains (numbered_from first start rest) step → IsEnough edges kinds base all step
own_enough more_pass edges kinds base prior first start all own front [] split is size known within passes step i = absurd (nothing_in step i)
own_enough more_pass edges kinds base prior first start all own front (head ∷ rest) split is size known within passes step i =
    elim (first_or_rest (record { first = first; number = start; step = head }) (numbered_from first (suc start) rest) step i) [
      | inl same ↦
          subst (IsEnough edges kinds base all) same
          (step_enough more_pass edges kinds base prior first all front head start is size known
          (λ place one got. within place one (ap (λ (list : List Step). slice_get list place) split ∙ got_front front (head ∷ rest) place one got)) passes.0.passes)
      | inr more ↦
          own_enough more_pass edges kinds base prior first (suc start) all own (front ++ head ∷ []) rest
          (split ∙ sym (append_assoc front (head ∷ []) rest)) (let longer = length_push front head in omega (arith, is, longer)) size known within
          (subst (λ (done : List (List Lit)). StepsPass edges kinds (λ clauses. prior ++ clauses) (λ clauses. base ++ clauses) done rest)
          (sym (map-append (λ (s : Step). s.clause) front (head ∷ []))) passes.1) step more
    ]

-- the shared steps, whose clauses have variables of the problem alone
shared_enough : MorePasses → (edges : List Edge) (kinds locals : List Kind) (base : List (List Lit)) (first start : ℕ) (all : List NumberedStep) (shared front rest : List Step)
    → shared ≡ front ++ rest → start ≡ first + length front → first ≡ length base → All (NamesBelow (length kinds)) (base ++ clauses_of front)
    → ((place : ℕ) (step : Step) → slice_get shared place ≡ Some step → Contains all (record { first = first; number = first + place; step = step }))
    → StepsCheck edges kinds (base ++ clauses_of front) rest
    → (step : NumberedStep) → Contains (numbered_from first start rest) step → IsEnough edges (kinds ++ locals) base all step
shared_enough more_pass edges kinds locals base first start all shared front [] split is size below within checks step i = absurd (nothing_in step i)
shared_enough more_pass edges kinds locals base first start all shared front (head ∷ rest) split is size below within checks step i =
    elim (first_or_rest (record { first = first; number = start; step = head }) (numbered_from first (suc start) rest) step i) [
      | inl same ↦
          subst (IsEnough edges (kinds ++ locals) base all) same
          (step_enough more_pass edges (kinds ++ locals) base base first all front head start is size (λ hint clause got. inl got)
          (λ place one got. within place one (ap (λ (list : List Step). slice_get list place) split ∙ got_front front (head ∷ rest) place one got))
          (passes_alike edges kinds (kinds ++ locals) (length kinds) (usable earlier earlier head.hints) head.clause (omega (arith, length-append kinds locals))
          (λ variable less. slice_get_front kinds locals variable less)
          (usable_all (NamesBelow (length kinds)) earlier earlier head.hints below below) checks.0.passes.in_range checks.0.passes))
      | inr more ↦
          shared_enough more_pass edges kinds locals base first (suc start) all shared (front ++ head ∷ []) rest
          (split ∙ sym (append_assoc front (head ∷ []) rest)) (let longer = length_push front head in omega (arith, is, longer)) size
          (subst (All (NamesBelow (length kinds))) next (All-push (NamesBelow (length kinds)) earlier head.clause below checks.0.passes.in_range)) within
          (subst (λ (done : List (List Lit)). StepsCheck edges kinds done rest) next checks.1) step more
    ]
  where
    earlier : List (List Lit)
    earlier = base ++ clauses_of front

    next : earlier ++ head.clause ∷ [] ≡ base ++ clauses_of (front ++ head ∷ [])
    next = append_assoc base (clauses_of front) (head.clause ∷ []) ∙ ap (λ (done : List (List Lit)). base ++ done) (sym (map-append (λ (s : Step). s.clause) front (head ∷ [])))

-- each step of a certificate that checks, and each shared one
pub all_enough : MorePasses → (problem : Problem) (shared : List Step) (query : Query) (certificate : Certificate) → IsValidProblem problem → ChecksOver problem shared query certificate
    → (step : NumberedStep) → Contains (all_steps (length problem.clauses) shared certificate.steps) step
    → IsEnough problem.edges (problem.kinds ++ query.locals) problem.clauses (all_steps (length problem.clauses) shared certificate.steps) step
all_enough more_pass problem shared query certificate valid checks step i =
    elim (Contains-append_cases (numbered (length problem.clauses) shared) (numbered (length problem.clauses + length shared) certificate.steps) step i) [
      | inl early ↦
          shared_enough more_pass problem.edges problem.kinds query.locals problem.clauses base base steps shared [] shared refl (omega arith) refl
          (subst (All (NamesBelow (length problem.kinds))) (sym none) valid.clauses) shared_known
          (subst (λ (done : List (List Lit)). StepsCheck problem.edges problem.kinds done shared) (sym none) checks.shares) step early
      | inr late ↦
          own_enough more_pass problem.edges (problem.kinds ++ query.locals) problem.clauses (problem.clauses ++ clauses_of shared) first first steps certificate.steps [] certificate.steps refl (omega arith)
          (let both = length-append problem.clauses (clauses_of shared) in let as_many = length-map shared (λ (s : Step). s.clause) in omega (arith, both, as_many))
          prior (λ place one got. Contains-append_right (numbered base shared) (numbered first certificate.steps) (record { first = first; number = first + place; step = one }) (numbered_got first first place certificate.steps one got))
          checks.own step late
    ]
  where
    base : ℕ
    base = length problem.clauses

    first : ℕ
    first = length problem.clauses + length shared

    steps : List NumberedStep
    steps = all_steps (length problem.clauses) shared certificate.steps

    none : problem.clauses ++ [] ≡ problem.clauses
    none = append-nil problem.clauses

    shared_known : (place : ℕ) (one : Step) → slice_get shared place ≡ Some one → Contains steps (record { first = base; number = base + place; step = one })
    shared_known place one got = Contains-append_left (numbered base shared) (numbered first certificate.steps) (record { first = base; number = base + place; step = one }) (numbered_got base base place shared one got)

    prior : IsPrior problem.clauses steps (problem.clauses ++ clauses_of shared)
    prior hint clause got =
        elim (joined_cases (λ (s : Step). s.clause) problem.clauses shared hint clause got) [
          | inl early ↦ inl early
          | inr late ↦ inr (record { first = base; number = base + late.0; step = late.1 }, shared_known late.0 late.1 late.3, late.2, late.4)
        ]

-- of steps that rise, those behind one have greater numbers
behind_rises : (before after : List NumberedStep) (step other : NumberedStep) → Pairwise Rises (before ++ step ∷ after) → Contains after other → step.number < other.number
behind_rises [] after step other rises i = recursion_at (Rises step) after other rises.0 i
behind_rises (head ∷ before) after step other rises i = behind_rises before after step other rises.1 i

pub enough : MorePasses → (problem : Problem) (shared : List Step) (query : Query) (certificate : Certificate) → IsValidProblem problem → ChecksOver problem shared query certificate
    → (before after : List NumberedStep) (told : NumberedStep) → told_of (length problem.clauses) shared certificate.steps ≡ before ++ told ∷ after
    → Passes problem.edges (problem.kinds ++ query.locals) (problem.clauses ++ map (λ (step : NumberedStep). step.step.clause) before) told.step.clause
enough more_pass problem shared query certificate valid checks before after told split =
    all_enough more_pass problem shared query certificate valid checks told (told_within base shared certificate.steps told is_told) more
    (λ hint clause got _. Contains-append_left problem.clauses (map clause_of before) clause (contains_got problem.clauses hint clause got)) cited
  where
    base : ℕ
    base = length problem.clauses

    clause_of : NumberedStep → List Lit
    clause_of step = step.step.clause

    more : List (List Lit)
    more = problem.clauses ++ map clause_of before

    is_told : Contains (told_of base shared certificate.steps) told
    is_told = subst (λ (list : List NumberedStep). Contains list told) (sym split) (contains_middle told before after)

    cited : HasCited (all_steps base shared certificate.steps) more told
    cited earlier among less cite =
        elim (contains_parts earlier told before after (subst (λ (list : List NumberedStep). Contains list earlier) split (closed_told base shared certificate.steps told earlier is_told among less cite))) [
          | inl early ↦ Contains-append_right problem.clauses (map clause_of before) earlier.step.clause (contains_map clause_of before earlier early)
          | inr (inl same) ↦ let equal : told.number ≡ earlier.number = ap (λ (s : NumberedStep). s.number) same in absurd (omega (arith, equal, less))
          | inr (inr late) ↦
              let greater : told.number < earlier.number = behind_rises before after told earlier (subst (Pairwise Rises) split (told_once base shared certificate.steps)) late in
              absurd (omega (arith, greater, less))
        ]
