-- Clauses that are attached and detached, and variables that are added.
use Rattle.std.proofs.Common.{◌≡◌, ◌≢◌, sym, ◌∙◌, ap, subst, ℕ, ◌+◌, ◌<◌, ◌≤◌, ◌^◌, true, false, Option, Some, None, List, [], ◌∷◌, ◌++◌, length, get_or, inl, inr, arith}
use Rattle.std.specs.Prelude.{slice_set, replicate}
use Rattle.std.proofs.lemmas.List.{length-set, length_push, get_or_push, get_or_append_left, get_or-set_same, get_or-set_other, get_or_past, set_past, ext_get_or, length-replicate}
use Rattle.std.proofs.lemmas.List.Elements.{All-contains}
use Rattle.std.proofs.lemmas.Bool.{cases_eq, cases_lt}
use Rattle.gp_clause.specs.declared.lit.Lit.{Lit}
use Rattle.gp_clause.specs.Clause.{NamesBelow}
use Rattle.gp_sat.specs.declared.assigned.Assigned.{Assigned}
use Rattle.gp_sat.specs.Stored.{Stored}
use Rattle.gp_sat.specs.State.{SolverForm, assigned, no_clause, clause_at, with_clause}
use Rattle.gp_sat.specs.Standing.{IsFalseTo, IsQuiet, IsForcing, Each}
use Rattle.gp_sat.specs.Sound.{IsOrdered, IsExplained, IsNamed, IsSound, true_lit}
use Rattle.gp_sat.specs.Changes.{IsAsserting, MayAttach}
use Rattle.gp_sat.specs.SolverLaws.{free_at, attached_within}

-- the clauses before a new one stay
clause_before : (clauses : List Stored) (new : Stored) (number : ℕ) → number < length clauses → get_or (clauses ++ new ∷ []) number no_clause ≡ get_or clauses number no_clause
clause_before clauses new number below = get_or_append_left clauses (new ∷ []) no_clause number below

clause_last : (clauses : List Stored) (new : Stored) (number : ℕ) → length clauses ≡ number → get_or (clauses ++ new ∷ []) number no_clause ≡ new
clause_last clauses new number is = get_or_push clauses new no_clause number is

-- a number is one of the earlier clauses, or that of the new one, or of none
number_cases : (clauses : List Stored) (new : Stored) (P : List Lit → Type 0) → ((number : ℕ) → P (clause_at clauses number)) → P new.clause → (number : ℕ) → P (clause_at (clauses ++ new ∷ []) number)
number_cases clauses new P old here number = elim (cases_lt number (length clauses)) [
  | inl below ↦ subst (λ (x : Stored). P x.clause) (sym (clause_before clauses new number below)) (old number)
  | inr past ↦ elim (cases_eq (length clauses) number) [
    | inl last ↦ subst (λ (x : Stored). P x.clause) (sym (clause_last clauses new number last)) here
    | inr differ ↦
        let none : get_or (clauses ++ new ∷ []) number no_clause ≡ no_clause = get_or_past (clauses ++ new ∷ []) number no_clause (omega (arith, past, differ, length_push clauses new)) in
        let none_old : get_or clauses number no_clause ≡ no_clause = get_or_past clauses number no_clause past in
        subst (λ (x : Stored). P x.clause) (none_old ∙ sym none) (old number)
  ]
]

-- a clause that asserts a literal at the present level is quiet at each level below it
quiet_asserting : (s : SolverForm) (clause : List Lit) (level : ℕ) → level < s.level → IsAsserting s clause → IsQuiet level (assigned s) clause
quiet_asserting s clause level below asserting = record {
  not_false = λ all. not_false_lit (all asserting.lit asserting.within);
  not_unit = λ lit is free others.
      let other_is : asserting.present.0 ≢ lit → ⊥ = λ apart. high (others asserting.present.0 asserting.present.1 apart) in
      other_is (λ same.
      let apart : asserting.lit ≢ lit = λ e.
      let both : asserting.present.0.variable ≡ asserting.lit.variable = ap (λ (x : Lit). x.variable) (same ∙ sym e) in
      let none : assigned s asserting.present.0.variable ≡ None = ap (assigned s) both ∙ asserting.unassigned in
      let some : assigned s asserting.present.0.variable ≡ Some asserting.present.2.0 = asserting.present.2.1 in
      let clash : ⊥ = cc in clash in
      not_false_lit (others asserting.lit asserting.within apart));
}
  where
    not_false_lit : IsFalseTo level (assigned s) asserting.lit → ⊥
    not_false_lit (a, is, sign, low) = let none : assigned s asserting.lit.variable ≡ None = asserting.unassigned in let clash : ⊥ = cc in clash

    high : IsFalseTo level (assigned s) asserting.present.0 → ⊥
    high (a, is, sign, low) =
        let other : assigned s asserting.present.0.variable ≡ Some asserting.present.2.0 = asserting.present.2.1 in
        let same : asserting.present.2.0 ≡ a = cc in
        let levels : asserting.present.2.0.level ≡ a.level = ap (λ (x : Assigned). x.level) same in
        let at_present : asserting.present.2.0.level ≡ s.level = asserting.present.2.2 in
        omega (arith, levels, at_present, low, below)

-- a clause that may be attached is quiet at each level below the present one
quiet_attached : (s : SolverForm) (clause : List Lit) (level : ℕ) → level < s.level → MayAttach s clause → IsQuiet level (assigned s) clause
quiet_attached s clause level below (inl bottom) = absurd (omega (arith, below, bottom))
quiet_attached s clause level below (inr asserting) = quiet_asserting s clause level below asserting

-- a solver stays sound with one more clause
pub sound_attached : (s : SolverForm) (clause : List Lit) → NamesBelow (length s.values) clause → MayAttach s clause → length s.clauses + 1 < 2 ^ 32 → IsSound s → IsSound (with_clause s clause)
sound_attached s clause names may few old = record {
  ordered = old.ordered;
  explained = record {
    first = old.explained.first;
    forced = λ v a number is reason.
        let why : (number < length s.clauses) × IsForcing (assigned s) (clause_at s.clauses number) (true_lit v a) a.place = old.explained.forced v a number is reason in (
          omega (arith, why.0, length_push s.clauses new),
          subst (λ (x : Stored). IsForcing (assigned s) x.clause (true_lit v a) a.place) (sym (clause_before s.clauses new number why.0)) why.1,
        );
  };
  closed = λ level below number attached. elim (cases_lt number (length s.clauses)) [
    | inl before ↦
        let same : get_or (s.clauses ++ new ∷ []) number no_clause ≡ get_or s.clauses number no_clause = clause_before s.clauses new number before in
        subst (λ (x : Stored). IsQuiet level (assigned s) x.clause) (sym same) (old.closed level below number (sym (ap (λ (x : Stored). x.attached) same) ∙ attached))
    | inr past ↦
        let within : number < length (s.clauses ++ new ∷ []) = attached_within (s.clauses ++ new ∷ []) number attached in
        let last : length s.clauses ≡ number = omega (arith, within, past, length_push s.clauses new) in
        subst (λ (x : Stored). IsQuiet level (assigned s) x.clause) (sym (clause_last s.clauses new number last)) (quiet_attached s clause level below may)
  ];
  named = number_cases s.clauses new (λ lits. Each (λ lit. lit.variable < length s.values) lits) old.named
      (λ lit is. All-contains (λ (lit : Lit). lit.variable < length s.values) clause lit names is);
  small = (old.small.0, omega (arith, few, length_push s.clauses new));
}
  where
    new : Stored
    new = record { clause = clause; attached = true }

-- a clause keeps its number when it is retired
pub sound_retired : (s : SolverForm) (number : ℕ) (clause : List Lit) → clause ≡ clause_at s.clauses number → s.level ≡ 0 → IsSound s
    → IsSound (record s { clauses = slice_set s.clauses number (record { clause = clause; attached = false }) })
sound_retired s number clause is bottom old = record {
  ordered = old.ordered;
  explained = record {
    first = old.explained.first;
    forced = λ v a n holds reason.
        let why : (n < length s.clauses) × IsForcing (assigned s) (clause_at s.clauses n) (true_lit v a) a.place = old.explained.forced v a n holds reason in
        (omega (arith, why.0, length-set s.clauses number gone), subst (λ (lits : List Lit). IsForcing (assigned s) lits (true_lit v a) a.place) (sym (same n)) why.1);
  };
  closed = λ level below. absurd (omega (arith, below, bottom));
  named = λ n. subst (λ (lits : List Lit). Each (λ lit. lit.variable < length s.values) lits) (sym (same n)) (old.named n);
  small = (old.small.0, omega (arith, old.small.1, length-set s.clauses number gone));
}
  where
    gone : Stored
    gone = record { clause = clause; attached = false }

    same : (n : ℕ) → clause_at (slice_set s.clauses number gone) n ≡ clause_at s.clauses n
    same n = elim (cases_eq n number) [
      | inl here ↦ elim (cases_lt number (length s.clauses)) [
        | inl below ↦
            let written : get_or (slice_set s.clauses number gone) number no_clause ≡ gone = get_or-set_same s.clauses number gone no_clause below in
            ap (λ (m : ℕ). clause_at (slice_set s.clauses number gone) m) here ∙ ap (λ (x : Stored). x.clause) written ∙ is ∙ ap (clause_at s.clauses) (sym here)
        | inr past ↦ ap (λ (xs : List Stored). clause_at xs n) (set_past s.clauses number gone past)
      ]
      | inr differ ↦ ap (λ (x : Stored). x.clause) (get_or-set_other s.clauses number n gone no_clause differ)
    ]

-- a solver stays sound with more variables that are unassigned
pub sound_grown : (s : SolverForm) (values : List (Option Assigned)) → ((variable : ℕ) → get_or values variable None ≡ assigned s variable) → length s.values ≤ length values → length values < 2 ^ 32
    → IsSound s → IsSound (record s { values = values })
sound_grown s values same more small old = record {
  ordered = subst (λ (f : ℕ → Option Assigned). IsOrdered f s.trail s.level) equal old.ordered;
  explained = subst (λ (f : ℕ → Option Assigned). IsExplained f s.clauses) equal old.explained;
  closed = λ level below number attached. subst (λ (f : ℕ → Option Assigned). IsQuiet level f (clause_at s.clauses number)) equal (old.closed level below number attached);
  named = λ number lit is. omega (arith, old.named number lit is, more);
  small = (small, old.small.1);
}
  where
    new : ℕ → Option Assigned
    new variable = get_or values variable None

    equal : assigned s ≡ (λ (variable : ℕ). get_or values variable None)
    equal = λ i variable. (sym (same variable)) i

-- a solver stays sound under another order
pub sound_ordered : (s : SolverForm) (order : List ℕ) (used : ℕ) → IsSound s → IsSound (record s { order = order; used = used })
sound_ordered s order used old = record {
  ordered = old.ordered;
  explained = old.explained;
  closed = old.closed;
  named = old.named;
  small = old.small;
}

-- a solver without assignments is sound
pub sound_empty : (values : List (Option Assigned)) (clauses : List Stored) (order : List ℕ) (used : ℕ) → ((variable : ℕ) → get_or values variable None ≡ None) → IsNamed (length values) clauses
    → length values < 2 ^ 32 → length clauses < 2 ^ 32 → IsSound (record { values = values; trail = []; clauses = clauses; level = 0; order = order; used = used })
sound_empty values clauses order used none named few_values few_clauses = record {
  ordered = record {
    within = λ v a is. absurd (no v a is);
    on_trail = λ v a d is. absurd (no v a is);
    off_trail = λ place d below. absurd (omega (arith, below));
    rising = λ v w a b is _ _. absurd (no v a is);
    present = λ v a is. absurd (no v a is);
    few = omega arith;
  };
  explained = record {
    first = λ v a is _. absurd (no v a is);
    forced = λ v a number is _. absurd (no v a is);
  };
  closed = λ level below. absurd (omega (arith, below));
  named = named;
  small = (few_values, few_clauses);
}
  where
    no : (v : ℕ) (a : Assigned) → get_or values v None ≡ Some a → ⊥
    no v a is = let free : get_or values v None ≡ None = none v in let clash : ⊥ = cc in clash

-- where each variable is unassigned, so are all
pub all_unassigned : (values : List (Option Assigned)) → ((k : ℕ) → k < length values → get_or values k None ≡ None) → values ≡ replicate (length values) None
all_unassigned values none = ext_get_or None values (replicate (length values) None) (sym (length-replicate (length values) None))
    (λ k below. none k below ∙ sym (free_at (length values) k))
