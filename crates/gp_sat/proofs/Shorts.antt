-- The clauses of fewer than two literals.
use Rattle.std.proofs.Common.{◌≡◌, sym, ◌∙◌, ap, subst, ℕ, ◌+◌, ◌-◌, ◌<◌, ◌≤◌, true, zero, suc, Option, Some, List, [], ◌∷◌, ◌++◌, length, get_or, inl, inr, ◌⊎◌, arith}
use Rattle.std.specs.Prelude.{Contains, slice_set, slice_index}
use Rattle.std.specs.List.{swap_remove}
use Rattle.std.proofs.lemmas.Bool.{cases_eq, cases_lt}
use Rattle.std.proofs.lemmas.List.{length-set, length_push, get_or_default, get_or-take, get_or-set_other, get_or_append_left, get_or_push, length-take-le}
use Rattle.std.specs.List.Sorted.{IsPermutation}
use Rattle.std.proofs.lemmas.List.Elements.{Contains-push, Contains-push_cases, Contains-append_left, Contains-get_or}
use Rattle.std.proofs.lemmas.List.Sorted.{Contains-permutation, IsPermutation-swap_remove, IsPermutation-sym}
use Rattle.gp_clause.specs.declared.lit.Lit.{Lit}
use Rattle.gp_sat.specs.declared.assigned.Assigned.{Assigned}
use Rattle.gp_sat.specs.Stored.{Stored}
use Rattle.gp_sat.specs.State.{SolverForm, assigned, clause_at, IsAttached, no_clause, with_clause}
use Rattle.gp_sat.specs.Watching.{IsSettled, AreLooked}
use Rattle.gp_sat.specs.SolverLaws.{attached_within}

-- where all short clauses were looked at, each that is attached is true at level 0
pub settled_of : (s : SolverForm) (shorts : List ℕ) (looked number : ℕ) → AreLooked s shorts looked → length shorts ≤ looked → IsAttached s.clauses number → length (clause_at s.clauses number) < 2 → IsSettled (assigned s) (clause_at s.clauses number)
settled_of s shorts looked number short seen attached few = at (short.all number attached few)
  where
    at : Contains shorts number → IsSettled (assigned s) (clause_at s.clauses number)
    at (k, below, is) =
        let same : get_or shorts k 0 ≡ number = sym (get_or_default shorts k number 0 below) ∙ is in
        subst (λ (n : ℕ). IsSettled (assigned s) (clause_at s.clauses n)) same
        (short.settled k (omega (arith, below, seen)) (subst (λ (n : ℕ). IsAttached s.clauses n) (sym same) attached))

settled_over : (f g : ℕ → Option Assigned) (clause : List Lit) → ((v : ℕ) (a : Assigned) → f v ≡ Some a → a.level ≤ 0 → g v ≡ Some a) → IsSettled f clause → IsSettled g clause
settled_over f g clause stays (lit, within, (a, is, sign, low)) = (lit, within, (a, stays lit.variable a is low, sign, low))

-- the same clauses, where what is assigned at level 0 stays
pub looked_over : (s t : SolverForm) (shorts : List ℕ) (looked : ℕ) → t.clauses ≡ s.clauses → ((v : ℕ) (a : Assigned) → assigned s v ≡ Some a → a.level ≤ 0 → assigned t v ≡ Some a)
    → AreLooked s shorts looked → AreLooked t shorts looked
looked_over s t shorts looked same stays old = record {
  all = λ number attached few. old.all number (subst (λ (cs : List Stored). IsAttached cs number) same attached) (subst (λ (cs : List Stored). length (clause_at cs number) < 2) same few);
  real = λ number among. subst (λ (cs : List Stored). (number < length cs) × (length (clause_at cs number) < 2)) (sym same) (old.real number among);
  settled = λ k below attached. subst (λ (cs : List Stored). IsSettled (assigned t) (clause_at cs (slice_index shorts k))) (sym same)
      (settled_over (assigned s) (assigned t) (clause_at s.clauses (slice_index shorts k)) stays (old.settled k below (subst (λ (cs : List Stored). IsAttached cs (slice_index shorts k)) same attached)));
  within = old.within;
}

-- none was looked at
pub looked_none : (s t : SolverForm) (shorts : List ℕ) (looked : ℕ) → t.clauses ≡ s.clauses → AreLooked s shorts looked → AreLooked t shorts 0
looked_none s t shorts looked same old = record {
  all = λ number attached few. old.all number (subst (λ (cs : List Stored). IsAttached cs number) same attached) (subst (λ (cs : List Stored). length (clause_at cs number) < 2) same few);
  real = λ number among. subst (λ (cs : List Stored). (number < length cs) × (length (clause_at cs number) < 2)) (sym same) (old.real number among);
  settled = λ k below. absurd (omega (arith, below));
  within = omega arith;
}

-- the next one was looked at
pub looked_passed : (s : SolverForm) (shorts : List ℕ) (looked : ℕ) → looked < length shorts → IsSettled (assigned s) (clause_at s.clauses (slice_index shorts looked)) → AreLooked s shorts looked → AreLooked s shorts (looked + 1)
looked_passed s shorts looked within settled old = record {
  all = old.all;
  real = old.real;
  settled = λ k below attached. elim (cases_eq k looked) [
    | inl here ↦ subst (λ (n : ℕ). IsSettled (assigned s) (clause_at s.clauses (slice_index shorts n))) (sym here) settled
    | inr differ ↦ old.settled k (omega (arith, below, differ)) attached
  ];
  within = omega (arith, within);
}

-- the next one is not attached, and is dropped
pub looked_dropped : (s : SolverForm) (shorts : List ℕ) (looked number : ℕ) → looked < length shorts → number ≡ get_or shorts looked 0 → (IsAttached s.clauses number → ⊥) → AreLooked s shorts looked
    → AreLooked s (swap_remove shorts looked number) looked × (length (swap_remove shorts looked number) + 1 ≡ length shorts)
looked_dropped s shorts looked number within is off old = (
  record {
    all = λ n attached few. elim (tail n (Contains-permutation shorts (number ∷ swap_remove shorts looked number) n moved (old.all n attached few))) [
      | inl here ↦ absurd (off (subst (λ (m : ℕ). IsAttached s.clauses m) (sym here) attached))
      | inr among ↦ among
    ];
    real = λ n among. old.real n (Contains-permutation (number ∷ swap_remove shorts looked number) shorts n (IsPermutation-sym shorts (number ∷ swap_remove shorts looked number) moved) (later n among));
    settled = λ k below attached.
        let same : get_or (swap_remove shorts looked number) k 0 ≡ get_or shorts k 0 = before k below in
        subst (λ (n : ℕ). IsSettled (assigned s) (clause_at s.clauses n)) (sym same) (old.settled k below (subst (λ (n : ℕ). IsAttached s.clauses n) same attached));
    within = omega (arith, size, within);
  },
  size,
)
  where
    written : List ℕ
    written = slice_set shorts looked (get_or shorts (length shorts - 1) number)

    size : length (swap_remove shorts looked number) + 1 ≡ length shorts
    size = omega (arith, length-take-le (length shorts - 1) written (omega (arith, length-set shorts looked (get_or shorts (length shorts - 1) number))), within)

    moved : IsPermutation shorts (number ∷ swap_remove shorts looked number)
    moved = IsPermutation-swap_remove shorts looked number within (is ∙ get_or_default shorts looked 0 number within)

    before : (k : ℕ) → k < looked → get_or (swap_remove shorts looked number) k 0 ≡ get_or shorts k 0
    before k below = get_or-take (length shorts - 1) written k 0 (omega (arith, below, within)) ∙ get_or-set_other shorts looked k (get_or shorts (length shorts - 1) number) 0 (λ e. omega (arith, e, below))

    later : (n : ℕ) → Contains (swap_remove shorts looked number) n → Contains (number ∷ swap_remove shorts looked number) n
    later n (k, below, at) = (suc k, omega (arith, below), at)

    tail : (n : ℕ) → Contains (number ∷ swap_remove shorts looked number) n → (number ≡ n) ⊎ Contains (swap_remove shorts looked number) n
    tail n (zero, below, at) = inl at
    tail n (suc k, below, at) = inr (k, omega (arith, below), at)

-- a clause is attached
pub looked_attached : (s : SolverForm) (clause : List Lit) (shorts more : List ℕ) (looked : ℕ) → ((length clause < 2) × (more ≡ shorts ++ length s.clauses ∷ [])) ⊎ ((2 ≤ length clause) × (more ≡ shorts))
    → AreLooked s shorts looked → AreLooked (with_clause s clause) more looked
looked_attached s clause shorts more looked either old = record {
  all = λ number attached few. elim (cases_lt number (length s.clauses)) [
    | inl below ↦ kept number (old.all number (sym (ap (λ (x : Stored). x.attached) (first number below)) ∙ attached) (subst (λ (x : Stored). length x.clause < 2) (first number below) few))
    | inr past ↦
        let last : length s.clauses ≡ number = omega (arith, past, attached_within (s.clauses ++ new ∷ []) number attached, length_push s.clauses new) in
        let mine : get_or (s.clauses ++ new ∷ []) number no_clause ≡ new = get_or_push s.clauses new no_clause number last in
        let short : length clause < 2 = subst (λ (x : Stored). length x.clause < 2) mine few in
        elim either [
          | inl added ↦ subst (λ (xs : List ℕ). Contains xs number) (sym added.1) (subst (λ (n : ℕ). Contains (shorts ++ n ∷ []) number) (sym last) (Contains-push shorts number))
          | inr long ↦ absurd (omega (arith, short, long.0))
        ]
  ];
  real = λ number among. elim (cases number among) [
    | inl was ↦
        let there : (number < length s.clauses) × (length (clause_at s.clauses number) < 2) = old.real number was in
        (omega (arith, there.0, length_push s.clauses new), subst (λ (x : Stored). length x.clause < 2) (sym (first number there.0)) there.1)
    | inr here ↦ (omega (arith, here.1, length_push s.clauses new), subst (λ (x : Stored). length x.clause < 2) (sym (get_or_push s.clauses new no_clause number here.1)) here.0)
  ];
  settled = λ k below attached.
      let same : slice_index more k ≡ slice_index shorts k = early k (omega (arith, below, old.within)) in
      let real : (slice_index shorts k < length s.clauses) × (length (clause_at s.clauses (slice_index shorts k)) < 2) = old.real (slice_index shorts k) (Contains-get_or shorts k 0 (omega (arith, below, old.within))) in
      let mine : get_or (s.clauses ++ new ∷ []) (slice_index shorts k) no_clause ≡ get_or s.clauses (slice_index shorts k) no_clause = first (slice_index shorts k) real.0 in
      subst (λ (n : ℕ). IsSettled (assigned s) (clause_at (s.clauses ++ new ∷ []) n)) (sym same)
      (subst (λ (x : Stored). IsSettled (assigned s) x.clause) (sym mine)
      (old.settled k below (sym (ap (λ (x : Stored). x.attached) mine) ∙ subst (λ (n : ℕ). IsAttached (s.clauses ++ new ∷ []) n) same attached)));
  within = omega (arith, old.within, longer);
}
  where
    new : Stored
    new = record { clause = clause; attached = true }

    first : (number : ℕ) → number < length s.clauses → get_or (s.clauses ++ new ∷ []) number no_clause ≡ get_or s.clauses number no_clause
    first number below = get_or_append_left s.clauses (new ∷ []) no_clause number below

    longer : length shorts ≤ length more
    longer = elim either [
      | inl added ↦ omega (arith, ap (λ (xs : List ℕ). length xs) added.1, length_push shorts (length s.clauses))
      | inr long ↦ omega (arith, ap (λ (xs : List ℕ). length xs) long.1)
    ]

    early : (k : ℕ) → k < length shorts → get_or more k 0 ≡ get_or shorts k 0
    early k below = elim either [
      | inl added ↦ ap (λ (xs : List ℕ). get_or xs k 0) added.1 ∙ get_or_append_left shorts (length s.clauses ∷ []) 0 k below
      | inr long ↦ ap (λ (xs : List ℕ). get_or xs k 0) long.1
    ]

    kept : (number : ℕ) → Contains shorts number → Contains more number
    kept number among = elim either [
      | inl added ↦ subst (λ (xs : List ℕ). Contains xs number) (sym added.1) (Contains-append_left shorts (length s.clauses ∷ []) number among)
      | inr long ↦ subst (λ (xs : List ℕ). Contains xs number) (sym long.1) among
    ]

    cases : (number : ℕ) → Contains more number → Contains shorts number ⊎ ((length clause < 2) × (length s.clauses ≡ number))
    cases number among = elim either [
      | inl added ↦ elim (Contains-push_cases shorts (length s.clauses) number (subst (λ (xs : List ℕ). Contains xs number) added.1 among)) [
        | inl was ↦ inl was
        | inr here ↦ inr (added.0, here)
      ]
      | inr long ↦ inl (subst (λ (xs : List ℕ). Contains xs number) long.1 among)
    ]

-- a clause is retired
pub looked_retired : (s t : SolverForm) (shorts : List ℕ) (looked : ℕ) → length t.clauses ≡ length s.clauses → ((number : ℕ) → clause_at t.clauses number ≡ clause_at s.clauses number)
    → ((number : ℕ) → IsAttached t.clauses number → IsAttached s.clauses number) → assigned t ≡ assigned s → AreLooked s shorts looked → AreLooked t shorts looked
looked_retired s t shorts looked size same attached values old = record {
  all = λ number is few. old.all number (attached number is) (subst (λ (lits : List Lit). length lits < 2) (same number) few);
  real = λ number among.
      let there : (number < length s.clauses) × (length (clause_at s.clauses number) < 2) = old.real number among in
      (omega (arith, there.0, size), subst (λ (lits : List Lit). length lits < 2) (sym (same number)) there.1);
  settled = λ k below is. subst (λ (lits : List Lit). IsSettled (assigned t) lits) (sym (same (slice_index shorts k)))
      (subst (λ (f : ℕ → Option Assigned). IsSettled f (clause_at s.clauses (slice_index shorts k))) (sym values) (old.settled k below (attached (slice_index shorts k) is)));
  within = old.within;
}
