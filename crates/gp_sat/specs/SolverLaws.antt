-- Laws of solvers that the layer above uses.
use Rattle.std.specs.Prelude.{◌≡◌, ◌≢◌, ℕ, ◌+◌, ◌<◌, ◌≤◌, ◌⊎◌, Bool, true, false, zero, suc, Option, Some, None, List, [], ◌∷◌, ◌++◌, length, cond, count_by, map, replicate, slice_set, Contains, refl, nat_lt, IsPermutation, Result, Ok, Err, IsOk, IsErr, IfOk}
use Rattle.std.proofs.Common.{sym, ◌∙◌, ap, subst, inl, inr, get_or, arith}
use Rattle.std.proofs.lemmas.List.{get_or_default, length-set, get_or-set_same, get_or-set_other, get_or_past}
use Rattle.std.proofs.lemmas.Bool.{cases_eq, cases_lt, ltb-false, le-ltb}
use Rattle.std.proofs.lemmas.List.Sums.{get_or-le-sum_by, sum_by-set}
use Rattle.std.specs.Option.{is_none}
use Rattle.gp_base.specs.CountLaws.{count_all}
use Rattle.gp_base.specs.ListLaws.{nothing_in}
use Rattle.gp_clause.specs.declared.lit.Lit.{Lit}
use Rattle.gp_clause.specs.LitLaws.{not_both}
use Rattle.gp_clause.specs.declared.clause.BadClause.{BadClause}
use Rattle.gp_clause.specs.Clause.{NamesTwice, occurrences}
use Rattle.gp_sat.specs.declared.assigned.Assigned.{Assigned}
use Rattle.gp_sat.specs.Stored.{Stored}
use Rattle.gp_sat.specs.State.{SolverForm, assigned, no_clause, IsAttached, kept_to, with_literal}
use Rattle.gp_sat.specs.Learning.{IsHighestBelow}
use Rattle.gp_sat.specs.Looking.{IsTrueLit}
use Rattle.gp_sat.specs.Sound.{IsOrdered}
use Rattle.gp_sat.specs.Standing.{IsFalse}

-- an attached clause has a number that was given
pub attached_within : (clauses : List Stored) (number : ℕ) → IsAttached clauses number → number < length clauses
attached_within clauses number attached = elim (cases_lt number (length clauses)) [
  | inl below ↦ below
  | inr past ↦
      let none : get_or clauses number no_clause ≡ no_clause = get_or_past clauses number no_clause past in
      let off : (get_or clauses number no_clause).attached ≡ false = ap (λ (x : Stored). x.attached) none in
      let clash : ⊥ = cc in absurd clash
]

-- unassigned variables are unassigned
pub free_at : (count variable : ℕ) → get_or (replicate {A = Option Assigned} count None) variable None ≡ None
free_at zero variable = refl
free_at (suc count) zero = refl
free_at (suc count) (suc variable) = free_at count variable

-- more variables that are unassigned change no assignment
pub grown_at : (values : List (Option Assigned)) (count variable : ℕ) → get_or (values ++ replicate count None) variable None ≡ get_or values variable None
grown_at [] count variable = free_at count variable
grown_at (x ∷ values) count zero = refl
grown_at (x ∷ values) count (suc variable) = grown_at values count variable

-- one variable that was unassigned is assigned
pub record Adds (f g : ℕ → Option Assigned) (variable : ℕ) (new : Assigned) : Type 0 where
  pub here : g variable ≡ Some new
  pub free : f variable ≡ None
  pub others : (other : ℕ) → other ≢ variable → g other ≡ f other

-- what was assigned stays
pub added_stays : {f g : ℕ → Option Assigned} {variable : ℕ} {new : Assigned} → Adds f g variable new
    → (other : ℕ) (a : Assigned) → f other ≡ Some a → g other ≡ Some a
added_stays {f} {g} {variable} adds other a is =
    let apart : other ≢ variable = λ same. let none : f other ≡ None = ap f same ∙ adds.free in let clash : ⊥ = cc in clash in
    adds.others other apart ∙ is

-- what is assigned is the new one, or was assigned before
pub added_cases : {f g : ℕ → Option Assigned} {variable : ℕ} {new : Assigned} → Adds f g variable new
    → (other : ℕ) (a : Assigned) → g other ≡ Some a → ((other ≡ variable) × (a ≡ new)) ⊎ (f other ≡ Some a)
added_cases {f} {g} {variable} {new} adds other a is =
    elim (cases_eq other variable) [
      | inl same ↦ let there : g other ≡ Some new = ap g same ∙ adds.here in inl (same, cc)
      | inr differ ↦ inr (sym (adds.others other differ) ∙ is)
    ]

-- the new assignment of a solver
abbrev pub added : SolverForm → Lit → ℕ → Option ℕ → Assigned
added s lit level reason = record { positive = lit.positive; level = level; place = length s.trail; reason = reason }

pub adds_literal : (s : SolverForm) (lit : Lit) (level : ℕ) (reason : Option ℕ) → lit.variable < length s.values → assigned s lit.variable ≡ None
    → Adds (assigned s) (assigned (with_literal s lit level reason)) lit.variable (added s lit level reason)
adds_literal s lit level reason within free = record {
  here = get_or-set_same s.values lit.variable (Some (added s lit level reason)) None within;
  free = free;
  others = λ other apart. get_or-set_other s.values lit.variable other (Some (added s lit level reason)) None apart;
}

-- an assignment that is kept was there, up to the level
pub kept_was : (level : ℕ) (value : Option Assigned) (a : Assigned) → kept_to level value ≡ Some a → (value ≡ Some a) × (a.level ≤ level)
kept_was level None a is = let clash : ⊥ = cc in absurd clash
kept_was level (Some b) a is = at (nat_lt level b.level) refl is
  where
    at : (t : Bool) → nat_lt level b.level ≡ t → kept_to level (Some b) ≡ Some a → (Some b ≡ Some a) × (a.level ≤ level)
    at true high kept =
        let none : kept_to level (Some b) ≡ None = rw high refl in
        let clash : ⊥ = cc in absurd clash
    at false low kept =
        let same : kept_to level (Some b) ≡ Some b = rw low refl in
        let equal : b ≡ a = cc in
        (ap (λ (x : Assigned). Some x) equal, omega (arith, ltb-false level b.level low, ap (λ (x : Assigned). x.level) equal))

-- an assignment up to the level is kept
pub kept_stays : (level : ℕ) (value : Option Assigned) (a : Assigned) → value ≡ Some a → a.level ≤ level → kept_to level value ≡ Some a
kept_stays level value a is low = ap (kept_to level) is ∙ kept
  where
    kept : kept_to level (Some a) ≡ Some a
    kept = rw (le-ltb level a.level low) refl

-- what is kept of each variable
pub kept_at : (level : ℕ) (values : List (Option Assigned)) (variable : ℕ) → get_or (map (kept_to level) values) variable None ≡ kept_to level (get_or values variable None)
kept_at level [] variable = refl
kept_at level (x ∷ values) zero = refl
kept_at level (x ∷ values) (suc variable) = kept_at level values variable

-- the literals of a walk make a clause, since each variable stands in one of them at most
pub makes_clause : (r : Result (List Lit) BadClause) (lits : List Lit) → (IsErr r → NamesTwice lits) → ((variable : ℕ) → occurrences variable lits ≤ 1) → IsOk r
makes_clause (Ok clause) lits twice once = refl
makes_clause (Err e) lits twice once = let both : NamesTwice lits = twice refl in absurd (omega (arith, both.1, once both.0))

-- the clause has the literals in another order
pub clause_sorted : (r : Result (List Lit) BadClause) (lits clause : List Lit) → IfOk r (λ c. IsPermutation lits c) → r ≡ Ok clause → IsPermutation lits clause
clause_sorted r lits clause sorted is = let P : Result (List Lit) BadClause → Type 0 = λ x. IfOk x (λ c. IsPermutation lits c) in subst P is sorted

-- a true literal is not false
pub true_not_false : (values : ℕ → Option Assigned) (lit : Lit) → IsTrueLit values lit → IsFalse values lit → ⊥
true_not_false values lit (a, is, sign) (b, there, opposite) =
    let same : a ≡ b = cc in
    not_both lit.positive (sym sign ∙ ap (λ (x : Assigned). x.positive) same ∙ opposite)

-- of no literals the highest level below the present one is 0
pub highest_none : (s : SolverForm) → IsHighestBelow s [] 0
highest_none s = record {
  highest = λ lit a is _ _. absurd (nothing_in lit is);
  reached = inl refl;
}

-- how many variables are unassigned
abbrev pub unassigned : List (Option Assigned) → ℕ
unassigned values = count_by is_none values

-- a variable that is assigned is one of the solver
pub within_values : (values : List (Option Assigned)) (variable : ℕ) (a : Assigned) → get_or values variable None ≡ Some a → variable < length values
within_values values variable a is =
    elim (cases_lt variable (length values)) [
      | inl below ↦ below
      | inr past ↦ let none : get_or values variable None ≡ None = get_or_past values variable None past in let clash : ⊥ = cc in absurd clash
    ]

-- one for a variable that is unassigned
abbrev spare : Option Assigned → ℕ
spare value = cond (is_none value) 1 0

-- taking back one assignment leaves one more variable unassigned
one_more : (values : List (Option Assigned)) (variable : ℕ) (a : Assigned) → get_or values variable None ≡ Some a
    → unassigned (slice_set values variable None) ≡ unassigned values + 1
one_more values variable a is =
    let was : spare (get_or values variable None) ≡ 0 = ap spare is in
    omega (arith, was, sum_by-set spare values variable None None (within_values values variable a is))

-- one variable that is unassigned counts
some_free : (values : List (Option Assigned)) (variable : ℕ) → get_or values variable None ≡ None → variable < length values → 0 < unassigned values
some_free values variable is within =
    let counts : spare (get_or values variable None) ≡ 1 = ap spare is in
    omega (arith, counts, get_or-le-sum_by spare values variable None within)

-- where none is assigned, all count
all_free : (values : List (Option Assigned)) → ((variable : ℕ) (a : Assigned) → get_or values variable None ≡ Some a → ⊥) → unassigned values ≡ length values
all_free values none = count_all is_none values each
  where
    each : (value : Option Assigned) → Contains values value → is_none value ≡ true
    each None at = refl
    each (Some a) (k, within, is) = absurd (none k a (get_or_default values k None (Some a) within ∙ is))

-- the variables at the first places of a trail are assigned, each at its place, and no other variable is
record Fills (values : List (Option Assigned)) (variable_at : ℕ → ℕ) (places : ℕ) : Type 0 where
  pub there : (place : ℕ) → place < places → (a : Assigned) × (get_or values (variable_at place) None ≡ Some a) × (a.place ≡ place)
  pub back : (variable : ℕ) (a : Assigned) → get_or values variable None ≡ Some a → (a.place < places) × (variable_at a.place ≡ variable)

-- so each place takes one variable
counted : (places : ℕ) (values : List (Option Assigned)) (variable_at : ℕ → ℕ) → Fills values variable_at places → unassigned values + places ≡ length values
counted zero values variable_at fills =
    let free : unassigned values ≡ length values = all_free values (λ variable a is. let below : a.place < 0 = (fills.back variable a is).0 in absurd (omega (arith, below))) in
    omega (arith, free)
counted (suc places) values variable_at fills =
    let last : ℕ = variable_at places in
    let here : (a : Assigned) × (get_or values last None ≡ Some a) × (a.place ≡ places) = fills.there places (omega arith) in
    let inside : last < length values = within_values values last here.0 here.1 in
    let rest : List (Option Assigned) = slice_set values last None in
    let gone : get_or rest last None ≡ None = get_or-set_same values last None None inside in
    let fewer : Fills rest variable_at places = record {
      there = λ place below.
          let one : (a : Assigned) × (get_or values (variable_at place) None ≡ Some a) × (a.place ≡ place) = fills.there place (omega arith) in
          let apart : variable_at place ≢ last = λ same.
          let twice : get_or values last None ≡ Some one.0 = subst (λ (v : ℕ). get_or values v None ≡ Some one.0) same one.1 in
          let equal : one.0.place ≡ here.0.place = ap (λ (x : Assigned). x.place) (let e : one.0 ≡ here.0 = cc in e) in
          omega (arith, equal, one.2, here.2, below) in
          (one.0, get_or-set_other values last (variable_at place) None None apart ∙ one.1, one.2);
      back = λ variable a is.
          let apart : variable ≢ last = λ same.
          let none : get_or rest variable None ≡ None = subst (λ (v : ℕ). get_or rest v None ≡ None) (sym same) gone in
          let clash : ⊥ = cc in clash in
          let was : get_or values variable None ≡ Some a = sym (get_or-set_other values last variable None None apart) ∙ is in
          let old : (a.place < suc places) × (variable_at a.place ≡ variable) = fills.back variable a was in
          let below : a.place < places = elim (cases_eq a.place places) [
            | inl same ↦ absurd (apart (sym old.1 ∙ ap variable_at same))
            | inr differ ↦ omega (arith, old.0, differ)
          ] in
          (below, old.1);
    } in
    let shorter : unassigned rest + places ≡ length rest = counted places rest variable_at fewer in
    omega (arith, shorter, one_more values last here.0 here.1, length-set values last None)

-- the unassigned variables and the trail are all variables
pub trail_counts : (values : List (Option Assigned)) (trail : List Lit) (level : ℕ) → IsOrdered (λ variable. get_or values variable None) trail level
    → unassigned values + length trail ≡ length values
trail_counts values trail level ordered =
    let d : Lit = record { variable = 0; positive = false } in
    counted (length trail) values (λ place. (get_or trail place d).variable) (record {
      there = λ place below. ordered.off_trail place d below;
      back = λ variable a is. (ordered.within variable a is, ap (λ (lit : Lit). lit.variable) (ordered.on_trail variable a d is));
    })

-- where a variable is unassigned, the trail is shorter than the number of variables
pub room_left : (values : List (Option Assigned)) (trail : List Lit) (level variable : ℕ) → IsOrdered (λ v. get_or values v None) trail level
    → variable < length values → get_or values variable None ≡ None → length trail < length values
room_left values trail level variable ordered within free = omega (arith, trail_counts values trail level ordered, some_free values variable free within)
