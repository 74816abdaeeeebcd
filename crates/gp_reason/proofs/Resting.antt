-- What is told is the last step, and the steps on which it rests.
use Rattle.std.proofs.Common.{ℕ, suc, ◌≡◌, ◌+◌, ◌<◌, refl, ap, sym, ◌∙◌, subst, inl, inr, arith, Bool, true, false, List, [], ◌∷◌, ◌++◌, append_assoc, length, map}
use Rattle.std.specs.Prelude.{◌⊎◌, Contains, if◌then◌else◌}
use Rattle.std.specs.List.{AllByRecursion, list_any}
use Rattle.std.proofs.lemmas.Bool.{or_cases, or_left, or_right}
use Rattle.gp_base.specs.ListLaws.{first_or_rest, here, nothing_in, pairwise_append, Pairwise, recursion_at, recursion_from_each, there}
use Rattle.gp_certificate.specs.declared.step.Step.{Step}
use Rattle.gp_clause.specs.declared.lit.Lit.{Lit}
use Rattle.gp_constraint.specs.declared.symbol.Symbol.{Symbol}
use Rattle.gp_window.specs.declared.schedule.EventId.{EventId}
use Rattle.gp_window.specs.WindowForm.{WindowForm}
use Rattle.gp_reason.specs.declared.fact.Fact.{Fact}
use Rattle.gp_reason.specs.declared.reasons.ReasonStep.{ReasonStep}
use Rattle.gp_reason.specs.Cycles.{cycle_told}
use Rattle.gp_reason.specs.Facts.{facts_of}
use Rattle.gp_reason.specs.Laws.{last_step, RestsOn}
use Rattle.gp_reason.specs.Laws.RestsOn.{cited, itself}
use Rattle.gp_reason.specs.Reasons.{steps_from}
use Rattle.gp_reason.specs.Told.{all_steps, cites, numbered, numbered_from, NumberedStep, told_among, told_of, with_step}
use Rattle.gp_reason.proofs.Marked.{not_before, numbered_append, told_of_some}

-- of two steps the first has the lesser number
abbrev pub Rises : NumberedStep → NumberedStep → Type 0
Rises one other = one.number < other.number

-- a step that cites the number, among these
some_cites : (number : ℕ) (told : List NumberedStep) → list_any (cites number) told ≡ true → (later : NumberedStep) × Contains told later × (cites number later ≡ true)
some_cites number [] any = absurd (none any)
  where
    none : ◌≡◌ {A = Bool} false true → ⊥
    none is = cc
some_cites number (step ∷ told) any =
    elim (or_cases (cites number step) (list_any (cites number) told) any) [
      | inl own ↦ (step, here step told, own)
      | inr more ↦ let rest = some_cites number told more in (rest.0, there step told rest.0 rest.1, rest.2)
    ]

any_cites : (number : ℕ) (told : List NumberedStep) (later : NumberedStep) → Contains told later → cites number later ≡ true → list_any (cites number) told ≡ true
any_cites number [] later i cite = absurd (nothing_in later i)
any_cites number (step ∷ told) later i cite =
    elim (first_or_rest step told later i) [
      | inl same ↦ or_left (cites number step) (list_any (cites number) told) (subst (λ s. cites number s ≡ true) (sym same) cite)
      | inr more ↦ or_right (cites number step) (list_any (cites number) told) (any_cites number told later more cite)
    ]

-- what stands in steps with one before them where it is cited
parts_where : (step other : NumberedStep) (told : List NumberedStep) (b : Bool) → list_any (cites step.number) told ≡ b → Contains (if b then step ∷ told else told) other
    → ((step ≡ other) × (list_any (cites step.number) told ≡ true)) ⊎ Contains told other
parts_where step other told true any i =
    elim (first_or_rest step told other i) [
      | inl same ↦ inl (same, any)
      | inr more ↦ inr more
    ]
parts_where step other told false none i = inr i

parts : (step other : NumberedStep) (told : List NumberedStep) → Contains (with_step step told) other
    → ((step ≡ other) × (list_any (cites step.number) told ≡ true)) ⊎ Contains told other
parts step other told i = parts_where step other told (list_any (cites step.number) told) refl i

kept_where : (step other : NumberedStep) (told : List NumberedStep) (b : Bool) → Contains told other → Contains (if b then step ∷ told else told) other
kept_where step other told true i = there step told other i
kept_where step other told false i = i

kept : (step other : NumberedStep) (told : List NumberedStep) → Contains told other → Contains (with_step step told) other
kept step other told i = kept_where step other told (list_any (cites step.number) told) i

put : (step : NumberedStep) (told : List NumberedStep) → list_any (cites step.number) told ≡ true → Contains (with_step step told) step
put step told any = subst (λ b. Contains (if b then step ∷ told else told) step) (sym any) (here step told)

-- one step before some that end with the last
told_more : (step last : NumberedStep) (front : List NumberedStep) → told_among (step ∷ (front ++ last ∷ [])) ≡ with_step step (told_among (front ++ last ∷ []))
told_more step last [] = refl
told_more step last (next ∷ front) = refl

-- what is told is among the steps
told_part : (steps : List NumberedStep) (step : NumberedStep) → Contains (told_among steps) step → Contains steps step
told_part [] step i = i
told_part (last ∷ []) step i = i
told_part (head ∷ next ∷ steps) step i =
    elim (parts head step (told_among (next ∷ steps)) i) [
      | inl own ↦ subst (Contains (head ∷ next ∷ steps)) own.0 (here head (next ∷ steps))
      | inr more ↦ there head (next ∷ steps) step (told_part (next ∷ steps) step more)
    ]

-- the numbers of what is told rise as those of the steps do
rises_where : (head : NumberedStep) (told : List NumberedStep) (b : Bool) → AllByRecursion (Rises head) told → Pairwise Rises told → Pairwise Rises (if b then head ∷ told else told)
rises_where head told true before rises = (before, rises)
rises_where head told false before rises = rises

told_rises : (steps : List NumberedStep) → Pairwise Rises steps → Pairwise Rises (told_among steps)
told_rises [] rises = tt
told_rises (last ∷ []) rises = rises
told_rises (head ∷ next ∷ steps) rises =
    rises_where head (told_among (next ∷ steps)) (list_any (cites head.number) (told_among (next ∷ steps)))
    (recursion_from_each (Rises head) (told_among (next ∷ steps)) (λ step i. recursion_at (Rises head) (next ∷ steps) step rises.0 (told_part (next ∷ steps) step i)))
    (told_rises (next ∷ steps) rises.1)

-- with one step more before them the last one rests on the same ones
rests_more : (head last : NumberedStep) (steps : List NumberedStep) (step : NumberedStep) → RestsOn steps last step → RestsOn (head ∷ steps) last step
rests_more head last steps step (itself one same) = itself one same
rests_more head last steps step (cited later one rests among less cite) =
    cited later one (rests_more head last steps later rests) (there head steps one among) less cite

-- the last step rests on what is told
only_told : (front : List NumberedStep) (last step : NumberedStep) → Pairwise Rises (front ++ last ∷ []) → Contains (told_among (front ++ last ∷ [])) step
    → RestsOn (front ++ last ∷ []) last step
only_told [] last step rises i =
    elim (first_or_rest last [] step i) [
      | inl same ↦ itself step (sym same)
      | inr none ↦ absurd (nothing_in step none)
    ]
only_told (head ∷ front) last step rises i =
    elim (parts head step (told_among (front ++ last ∷ [])) (subst (λ (told : List NumberedStep). Contains told step) (told_more head last front) i)) [
      | inl own ↦
          let citing = some_cites head.number (told_among (front ++ last ∷ [])) own.1 in
          let less : head.number < citing.0.number = recursion_at (Rises head) (front ++ last ∷ []) citing.0 rises.0 (told_part (front ++ last ∷ []) citing.0 citing.1) in
          subst (RestsOn (head ∷ (front ++ last ∷ [])) last) own.0
          (cited citing.0 head (rests_more head last (front ++ last ∷ []) citing.0 (only_told front last citing.0 rises.1 citing.1)) (here head (front ++ last ∷ [])) less citing.2)
      | inr more ↦ rests_more head last (front ++ last ∷ []) step (only_told front last step rises.1 more)
    ]

-- the last step is told
last_told : (front : List NumberedStep) (last : NumberedStep) → Contains (told_among (front ++ last ∷ [])) last
last_told [] last = here last []
last_told (head ∷ front) last =
    subst (λ (told : List NumberedStep). Contains told last) (sym (told_more head last front)) (kept head last (told_among (front ++ last ∷ [])) (last_told front last))

-- what a step cites that is told is told
closed : (front : List NumberedStep) (last later step : NumberedStep) → Pairwise Rises (front ++ last ∷ []) → Contains (told_among (front ++ last ∷ [])) later
    → Contains (front ++ last ∷ []) step → step.number < later.number → cites step.number later ≡ true → Contains (told_among (front ++ last ∷ [])) step
closed [] last later step rises told among less cite =
    elim (first_or_rest last [] later told) [
      | inl same ↦ elim (first_or_rest last [] step among) [
        | inl one ↦ let equal : later.number ≡ step.number = ap (λ (s : NumberedStep). s.number) (sym same ∙ one) in absurd (omega (arith, equal, less))
        | inr none ↦ absurd (nothing_in step none)
      ]
      | inr none ↦ absurd (nothing_in later none)
    ]
closed (head ∷ front) last later step rises told among less cite =
    subst (λ (list : List NumberedStep). Contains list step) (sym (told_more head last front))
    (elim (parts head later (told_among (front ++ last ∷ [])) (subst (λ (list : List NumberedStep). Contains list later) (told_more head last front) told)) [
      | inl own ↦ elim (first_or_rest head (front ++ last ∷ []) step among) [
        | inl one ↦ let equal : later.number ≡ step.number = ap (λ (s : NumberedStep). s.number) (sym own.0 ∙ one) in absurd (omega (arith, equal, less))
        | inr behind ↦
            let first : head.number < step.number = recursion_at (Rises head) (front ++ last ∷ []) step rises.0 behind in
            let equal : head.number ≡ later.number = ap (λ (s : NumberedStep). s.number) own.0 in
            absurd (omega (arith, first, equal, less))
      ]
      | inr more ↦ elim (first_or_rest head (front ++ last ∷ []) step among) [
        | inl one ↦
            subst (Contains (with_step head (told_among (front ++ last ∷ [])))) one
            (put head (told_among (front ++ last ∷ []))
            (any_cites head.number (told_among (front ++ last ∷ [])) later more (subst (λ (s : NumberedStep). cites s.number later ≡ true) (sym one) cite)))
        | inr behind ↦ kept head step (told_among (front ++ last ∷ [])) (closed front last later step rises.1 more behind less cite)
      ]
    ])

-- all on which the last step rests is told
all_told : (front : List NumberedStep) (last step : NumberedStep) → Pairwise Rises (front ++ last ∷ []) → RestsOn (front ++ last ∷ []) last step
    → Contains (told_among (front ++ last ∷ [])) step
all_told front last step rises (itself one same) = subst (Contains (told_among (front ++ last ∷ []))) (sym same) (last_told front last)
all_told front last step rises (cited later one rests among less cite) = closed front last later one rises (all_told front last later rises rests) among less cite

-- the numbers of all steps rise
not_behind : (first start : ℕ) (steps : List Step) (step : NumberedStep) → Contains (numbered_from first start steps) step → step.number < start + length steps
not_behind first start [] step i = absurd (nothing_in step i)
not_behind first start (head ∷ steps) step i =
    elim (first_or_rest (record { first = first; number = start; step = head }) (numbered_from first (suc start) steps) step i) [
      | inl same ↦ let at : start ≡ step.number = ap (λ (s : NumberedStep). s.number) same in omega (arith, at)
      | inr rest ↦ let later = not_behind first (suc start) steps step rest in omega (arith, later)
    ]

numbered_rise : (first start : ℕ) (steps : List Step) → Pairwise Rises (numbered_from first start steps)
numbered_rise first start [] = tt
numbered_rise first start (step ∷ steps) = (
  recursion_from_each (Rises (record { first = first; number = start; step = step })) (numbered_from first (suc start) steps)
      (λ other i. let later = not_before first (suc start) steps other i in omega (arith, later)),
  numbered_rise first (suc start) steps,
)

all_rise : (base : ℕ) (shared own : List Step) → Pairwise Rises (all_steps base shared own)
all_rise base shared own =
    pairwise_append Rises (numbered base shared) (numbered (base + length shared) own) (numbered_rise base base shared) (numbered_rise (base + length shared) (base + length shared) own)
    (λ one other i j.
    let before = not_behind base base shared one i in
    let after = not_before (base + length shared) (base + length shared) own other j in
    omega (arith, before, after))

pub told_once : (base : ℕ) (shared own : List Step) → Pairwise Rises (told_of base shared own)
told_once base shared [] = tt
told_once base shared (step ∷ steps) = told_rises (all_steps base shared (step ∷ steps)) (all_rise base shared (step ∷ steps))

-- all steps end with the last one
ended : (base : ℕ) (shared front : List Step) (last : Step)
    → all_steps base shared (front ++ last ∷ []) ≡ (numbered base shared ++ numbered (base + length shared) front) ++ last_step base shared front last ∷ []
ended base shared front last =
    ap (λ (own : List NumberedStep). numbered base shared ++ own) (numbered_append (base + length shared) (base + length shared) (base + length shared + length front) front last refl)
    ∙ sym (append_assoc (numbered base shared) (numbered (base + length shared) front) (last_step base shared front last ∷ []))

pub only : (base : ℕ) (shared front : List Step) (last : Step) (step : NumberedStep) → Contains (told_of base shared (front ++ last ∷ [])) step
    → Contains (all_steps base shared (front ++ last ∷ [])) step × RestsOn (all_steps base shared (front ++ last ∷ [])) (last_step base shared front last) step
only base shared front last step i =
    let among : Contains (told_among (all_steps base shared (front ++ last ∷ []))) step =
    subst (λ (list : List NumberedStep). Contains list step) (told_of_some base shared front last) i in (
      told_part (all_steps base shared (front ++ last ∷ [])) step among,
      subst (λ (list : List NumberedStep). Pairwise Rises list → Contains (told_among list) step → RestsOn list (last_step base shared front last) step) (sym (ended base shared front last))
          (only_told (numbered base shared ++ numbered (base + length shared) front) (last_step base shared front last) step) (all_rise base shared (front ++ last ∷ [])) among,
    )

pub all : (base : ℕ) (shared front : List Step) (last : Step) (step : NumberedStep)
    → RestsOn (all_steps base shared (front ++ last ∷ [])) (last_step base shared front last) step → Contains (told_of base shared (front ++ last ∷ [])) step
all base shared front last step rests =
    subst (λ (list : List NumberedStep). Contains list step) (sym (told_of_some base shared front last))
    (subst (λ (list : List NumberedStep). Pairwise Rises list → RestsOn list (last_step base shared front last) step → Contains (told_among list) step) (sym (ended base shared front last))
    (all_told (numbered base shared ++ numbered (base + length shared) front) (last_step base shared front last) step) (all_rise base shared (front ++ last ∷ [])) rests)

-- the steps of a reason have the numbers of those that are told, say what their clauses do, and have their cycles
pub numbers_told : (window : WindowForm) (names : List Symbol) (clauses : List (List Lit)) (before told : List NumberedStep)
    → map (λ (step : ReasonStep). step.number) (steps_from window names clauses before told) ≡ map (λ (step : NumberedStep). step.number) told
numbers_told window names clauses before [] = refl
numbers_told window names clauses before (step ∷ told) = ap (λ (rest : List ℕ). step.number ∷ rest) (numbers_told window names clauses (before ++ step ∷ []) told)

pub says_told : (window : WindowForm) (names : List Symbol) (clauses : List (List Lit)) (before told : List NumberedStep)
    → map (λ (step : ReasonStep). step.says) (steps_from window names clauses before told) ≡ map (λ (step : NumberedStep). facts_of window names step.step.clause) told
says_told window names clauses before [] = refl
says_told window names clauses before (step ∷ told) =
    ap (λ (rest : List (List Fact)). facts_of window names step.step.clause ∷ rest) (says_told window names clauses (before ++ step ∷ []) told)

pub cycles_told : (window : WindowForm) (names : List Symbol) (clauses : List (List Lit)) (before told : List NumberedStep)
    → map (λ (step : ReasonStep). step.cycle) (steps_from window names clauses before told) ≡ map (λ (step : NumberedStep). cycle_told window names clauses step.number step.step) told
cycles_told window names clauses before [] = refl
cycles_told window names clauses before (step ∷ told) =
    ap (λ (rest : List (List EventId)). cycle_told window names clauses step.number step.step ∷ rest) (cycles_told window names clauses (before ++ step ∷ []) told)

-- some steps end with a last one
pub ends_with : (step : Step) (steps : List Step) → (front : List Step) × (last : Step) × (step ∷ steps ≡ front ++ last ∷ [])
ends_with step [] = ([], step, refl)
ends_with step (next ∷ steps) =
    let rest = ends_with next steps in
    (step ∷ rest.0, rest.1, ap (λ (list : List Step). step ∷ list) rest.2)

closed_end : (base : ℕ) (shared front : List Step) (last : Step) (later step : NumberedStep) → Contains (told_of base shared (front ++ last ∷ [])) later
    → Contains (all_steps base shared (front ++ last ∷ [])) step → step.number < later.number → cites step.number later ≡ true → Contains (told_of base shared (front ++ last ∷ [])) step
closed_end base shared front last later step told among less cite =
    subst (λ (list : List NumberedStep). Contains list step) (sym (told_of_some base shared front last))
    (subst (λ (list : List NumberedStep). Pairwise Rises list → Contains (told_among list) later → Contains list step → Contains (told_among list) step) (sym (ended base shared front last))
    (λ rises own within. closed (numbered base shared ++ numbered (base + length shared) front) (last_step base shared front last) later step rises own within less cite)
    (all_rise base shared (front ++ last ∷ [])) (subst (λ (list : List NumberedStep). Contains list later) (told_of_some base shared front last) told) among)

-- each step that is cited by one that is told is told
pub closed_told : (base : ℕ) (shared own : List Step) (later step : NumberedStep) → Contains (told_of base shared own) later → Contains (all_steps base shared own) step
    → step.number < later.number → cites step.number later ≡ true → Contains (told_of base shared own) step
closed_told base shared [] later step told among less cite = absurd (nothing_in later told)
closed_told base shared (head ∷ own) later step told among less cite =
    let end = ends_with head own in
    subst (λ (list : List Step). Contains (told_of base shared list) later → Contains (all_steps base shared list) step → Contains (told_of base shared list) step) (sym end.2)
    (λ one other. closed_end base shared end.0 end.1 later step one other less cite) told among

-- and is among the steps
pub told_within : (base : ℕ) (shared own : List Step) (step : NumberedStep) → Contains (told_of base shared own) step → Contains (all_steps base shared own) step
told_within base shared [] step told = absurd (nothing_in step told)
told_within base shared (head ∷ own) step told = told_part (all_steps base shared (head ∷ own)) step told
