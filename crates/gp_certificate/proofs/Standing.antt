-- How clauses stand under an assignment, and what making a literal true changes.
use Rattle.std.proofs.Common.{◌≡◌, ◌≢◌, ℕ, ◌+◌, ◌<◌, ◌≤◌, Bool, true, false, not, cond, Option, None, Some, List, [], ◌∷◌, ◌++◌, length, get_or, set, vec_capacity, All, Any, Contains, ◌⊎◌, inl, inr, refl, ap, sym, ◌∙◌, subst, arith, ◌==◌, eq-eqb}
use Rattle.std.specs.Option.{is_none}
use Rattle.std.proofs.lemmas.Bool.{cases_eq, cases_lt, false≢true}
use Rattle.std.proofs.lemmas.List.{length-set, length_push, get_or-set_same, get_or-set_other, get_or_past}
use Rattle.std.proofs.lemmas.List.Elements.{All-contains, All-weaker, All-push, Contains-push, Contains-push_cases, Contains-append_left}
use Rattle.std.proofs.lemmas.List.Sums.{sum_by-set, sum_by_push}
use Rattle.std.proofs.lemmas.Bool.Decides.{nat_tests}
use Rattle.gp_clause.specs.Clause.{NamesOnce, occurrences}
use Rattle.gp_base.specs.CountLaws.{count_none, count_one}
use Rattle.std.proofs.lemmas.Option.{same_Some, none-some}
use Rattle.gp_clause.specs.declared.lit.Lit.{Lit}
use Rattle.gp_clause.specs.Closure.{Derived, Conflicts, IsTrueIn, IsFalseIn, LeavesNone}
use Rattle.gp_clause.specs.Closure.Derived.{forced}
use Rattle.gp_clause.specs.Lit.{lit_eq, opposite}
use Rattle.gp_clause.specs.LitLaws.{lit_eq_decides, lits_same, not_both}
use Rattle.gp_certificate.specs.declared.assignment.Assignment.{Assignment}
use Rattle.gp_certificate.specs.Assignment.{value_of, IsDue, IsOpen, unassigned, IsKept, IsClosing}
use Rattle.gp_base.specs.ListLaws.{all_from_contains}

pub some_clash : (o : Option Bool) (b : Bool) → o ≡ Some b → o ≡ None → ⊥
some_clash o b some none = none-some b (sym none ∙ some)

pub sign_clash : (o : Option Bool) (b : Bool) → o ≡ Some b → o ≡ Some (not b) → ⊥
sign_clash o b some other = not_both b (same_Some b (not b) (sym some ∙ other))

-- two literals are the same, or they are not
pub same_or_not : (P : Type 0) (a b : Lit) → (a ≡ b → P) → (a ≢ b → P) → P
same_or_not P a b same apart = at (lit_eq a b) refl
  where
    at : (t : Bool) → lit_eq a b ≡ t → P
    at true is = same ((lit_eq_decides a b).0 is)
    at false is = apart (λ e. false≢true (sym is ∙ (lit_eq_decides a b).1 e))

pub open_by_true : (values : List (Option Bool)) (clause : List Lit) → Any (IsTrueIn (value_of values)) clause → IsOpen values clause
open_by_true values clause (k, t, within, is, holds) = record {
  no_false = λ all. sign_clash (value_of values t.variable) t.positive holds (All-contains (IsFalseIn (value_of values)) clause t all (k, within, is));
  no_due = λ lit due.
      let apart : t ≢ lit = λ same. some_clash (value_of values t.variable) t.positive holds (ap (λ (l : Lit). value_of values l.variable) same ∙ due.unassigned) in
      sign_clash (value_of values t.variable) t.positive holds (due.others t (k, within, is) apart);
}

-- a literal that is true has a variable that there is
pub true_within : (values : List (Option Bool)) (lit : Lit) → IsTrueIn (value_of values) lit → lit.variable < length values
true_within values lit holds = at (cases_lt lit.variable (length values))
  where
    at : (lit.variable < length values) ⊎ (length values ≤ lit.variable) → lit.variable < length values
    at (inl within) = within
    at (inr past) = absurd (some_clash (value_of values lit.variable) lit.positive holds (get_or_past values lit.variable None past))

-- one more variable has a value
pub unassigned_less : (values : List (Option Bool)) (variable : ℕ) (sign : Bool) → variable < length values → value_of values variable ≡ None
    → unassigned (set values variable (Some sign)) + 1 ≡ unassigned values
unassigned_less values variable sign within none =
    let one : Option Bool → ℕ = λ value. cond (is_none value) 1 0 in
    let old : one (value_of values variable) ≡ 1 = ap one none in
    omega (arith, sum_by-set one values variable (Some sign) None within, old)

-- a literal that is true in more is the new one or was true before
true_before : (values : List (Option Bool)) (lit : Lit) → lit.variable < length values → (other : Lit) → IsTrueIn (value_of (set values lit.variable (Some lit.positive))) other
    → IsTrueIn (value_of values) other ⊎ (lit ≡ other)
true_before values lit within other holds = at (cases_eq other.variable lit.variable)
  where
    at : (other.variable ≡ lit.variable) ⊎ (other.variable ≡ lit.variable → ⊥) → IsTrueIn (value_of values) other ⊎ (lit ≡ other)
    at (inl same) =
        let put : value_of (set values lit.variable (Some lit.positive)) other.variable ≡ Some lit.positive =
        ap (λ v. value_of (set values lit.variable (Some lit.positive)) v) same ∙ get_or-set_same values lit.variable (Some lit.positive) None within in
        inr (lits_same lit other (sym same) (same_Some lit.positive other.positive (sym put ∙ holds)))
    at (inr apart) = inl (sym (get_or-set_other values lit.variable other.variable (Some lit.positive) None apart) ∙ holds)

-- what was true stays so
pub true_after : (values : List (Option Bool)) (lit : Lit) → value_of values lit.variable ≡ None → (other : Lit) → IsTrueIn (value_of values) other
    → IsTrueIn (value_of (set values lit.variable (Some lit.positive))) other
true_after values lit none other holds =
    let apart : other.variable ≢ lit.variable = λ same. some_clash (value_of values other.variable) other.positive holds (ap (λ v. value_of values v) same ∙ none) in
    get_or-set_other values lit.variable other.variable (Some lit.positive) None apart ∙ holds

-- how often a variable stands in one more literal
occurs_push : (variable : ℕ) (lits : List Lit) (lit : Lit) → occurrences variable (lits ++ lit ∷ []) ≡ occurrences variable lits + cond (lit.variable == variable) 1 0
occurs_push variable lits lit = sum_by_push (λ (l : Lit). cond {A = ℕ} (l.variable == variable) 1 0) lits lit

-- a variable without a value is that of no true literal
absent : (values : List (Option Bool)) (trail : List Lit) (variable : ℕ) → All (IsTrueIn (value_of values)) trail → value_of values variable ≡ None → occurrences variable trail ≡ 0
absent values trail variable noted none = count_none (λ (l : Lit). l.variable == variable) trail each
  where
    each : (l : Lit) → Contains trail l → (l.variable == variable) ≡ false
    each l has = elim (cases_eq l.variable variable) [
      | inl same ↦ absurd (some_clash (value_of values l.variable) l.positive (All-contains (IsTrueIn (value_of values)) trail l noted has) (ap (value_of values) same ∙ none))
      | inr apart ↦ grind (arith, nat_tests)
    ]

once_more : (values : List (Option Bool)) (trail : List Lit) (lit : Lit) → All (IsTrueIn (value_of values)) trail → NamesOnce trail → value_of values lit.variable ≡ None → NamesOnce (trail ++ lit ∷ [])
once_more values trail lit noted once none variable = elim (cases_eq lit.variable variable) [
  | inl same ↦
      let zero_times : occurrences variable trail ≡ 0 = absent values trail variable noted (ap (value_of values) (sym same) ∙ none) in
      omega (arith, occurs_push variable trail lit, zero_times, few (lit.variable == variable))
  | inr apart ↦
      let unlike : ◌≡◌ {A = ℕ} (cond (lit.variable == variable) 1 0) 0 = grind (arith, nat_tests) in
      let before : occurrences variable trail ≤ 1 = once variable in
      omega (arith, occurs_push variable trail lit, before, unlike)
]
  where
    few : (b : Bool) → cond {A = ℕ} b 1 0 ≤ 1
    few true = omega arith
    few false = omega arith

-- the last literal of a trail has a variable of its own
last_apart : (front : List Lit) (lit other : Lit) → NamesOnce (front ++ lit ∷ []) → Contains front other → other.variable ≢ lit.variable
last_apart front lit other once has same =
    let self : ◌≡◌ {A = ℕ} (cond (lit.variable == lit.variable) 1 0) 1 = ap (λ b. cond {A = ℕ} b 1 0) (eq-eqb lit.variable lit.variable refl) in
    let some : 1 ≤ occurrences lit.variable front = count_one (λ (l : Lit). l.variable == lit.variable) front other has (ap (λ (v : ℕ). v == lit.variable) same ∙ eq-eqb lit.variable lit.variable refl) in
    let most : occurrences lit.variable (front ++ lit ∷ []) ≤ 1 = once lit.variable in
    omega (arith, occurs_push lit.variable front lit, self, some, most)

-- an assignment without its last literal
pub kept_less : (old new : Assignment) (lit : Lit) → IsKept old → old.trail.items ≡ new.trail.items ++ lit ∷ [] → new.values.items ≡ set old.values.items lit.variable None
    → vec_capacity new.trail ≡ vec_capacity old.trail → IsKept new
kept_less old new lit kept trail values capacity = record {
  room = omega (arith, kept.room, size, capacity);
  count = omega (arith, kept.count, size, longer, more);
  trailed = λ other holds. elim (cases_eq other.variable lit.variable) [
    | inl same ↦ absurd (some_clash _ other.positive holds (ap (λ v. value_of new.values.items v) same ∙ gone))
    | inr apart ↦ elim (Contains-push_cases new.trail.items lit other (subst (λ ls. Contains ls other) trail (kept.trailed other (sym (before other apart) ∙ holds)))) [
      | inl has ↦ has
      | inr equal ↦ absurd (apart (sym (ap (λ (l : Lit). l.variable) equal)))
    ]
  ];
  noted = all_from_contains (IsTrueIn (value_of new.values.items)) new.trail.items (λ other has.
      before other (last_apart new.trail.items lit other (subst NamesOnce trail kept.once) has)
      ∙ All-contains (IsTrueIn (value_of old.values.items)) old.trail.items other kept.noted (subst (λ ls. Contains ls other) (sym trail) (Contains-append_left new.trail.items (lit ∷ []) other has)));
  once = λ variable.
      let most : occurrences variable old.trail.items ≤ 1 = kept.once variable in
      omega (arith, most, ap (λ ls. occurrences variable ls) trail, occurs_push variable new.trail.items lit);
}
  where
    size : length new.values.items ≡ length old.values.items
    size = ap (λ (vs : List (Option Bool)). length vs) values ∙ length-set old.values.items lit.variable None

    longer : length old.trail.items ≡ length new.trail.items + 1
    longer = ap (λ (ls : List Lit). length ls) trail ∙ length_push new.trail.items lit

    holds_lit : IsTrueIn (value_of old.values.items) lit
    holds_lit = All-contains (IsTrueIn (value_of old.values.items)) old.trail.items lit kept.noted (subst (λ ls. Contains ls lit) (sym trail) (Contains-push new.trail.items lit))

    within : lit.variable < length old.values.items
    within = true_within old.values.items lit holds_lit

    gone : value_of new.values.items lit.variable ≡ None
    gone = ap (λ vs. value_of vs lit.variable) values ∙ get_or-set_same old.values.items lit.variable None None within

    before : (other : Lit) → (other.variable ≡ lit.variable → ⊥) → value_of new.values.items other.variable ≡ value_of old.values.items other.variable
    before other apart = ap (λ vs. value_of vs other.variable) values ∙ get_or-set_other old.values.items lit.variable other.variable None None apart

    more : unassigned new.values.items ≡ unassigned old.values.items + 1
    more =
        let one : Option Bool → ℕ = λ value. cond (is_none value) 1 0 in
        let had : one (value_of old.values.items lit.variable) ≡ 0 = ap one holds_lit in
        omega (arith, ap (λ vs. unassigned vs) values, sum_by-set one old.values.items lit.variable None None within, had)

pub kept_more : (old new : Assignment) (lit : Lit) → IsKept old → lit.variable < length old.values.items → value_of old.values.items lit.variable ≡ None
    → new.values.items ≡ set old.values.items lit.variable (Some lit.positive) → new.trail.items ≡ old.trail.items ++ lit ∷ [] → vec_capacity new.trail ≡ vec_capacity old.trail → IsKept new
kept_more old new lit kept within none values trail capacity =
    let size : length new.values.items ≡ length old.values.items = ap (λ (vs : List (Option Bool)). length vs) values ∙ length-set old.values.items lit.variable (Some lit.positive) in
    let longer : length new.trail.items ≡ length old.trail.items + 1 = ap (λ (ls : List Lit). length ls) trail ∙ length_push old.trail.items lit in
    let less : unassigned new.values.items + 1 ≡ unassigned old.values.items = ap (λ vs. unassigned vs + 1) values ∙ unassigned_less old.values.items lit.variable lit.positive within none in
    record {
      room = omega (arith, kept.room, size, capacity);
      count = omega (arith, kept.count, size, longer, less);
      trailed = λ other holds.
          let moved : IsTrueIn (value_of (set old.values.items lit.variable (Some lit.positive))) other = ap (λ vs. value_of vs other.variable) (sym values) ∙ holds in
          let P : List Lit → Type 0 = λ ls. Contains ls other in
          subst P (sym trail) (at other (true_before old.values.items lit within other moved));
      noted =
          let new_true : get_or (set old.values.items lit.variable (Some lit.positive)) lit.variable None ≡ Some lit.positive = get_or-set_same old.values.items lit.variable (Some lit.positive) None within in
          let P : List Lit → Type 0 = λ ls. All (IsTrueIn (value_of new.values.items)) ls in
          let Q : List (Option Bool) → Type 0 = λ vs. All (IsTrueIn (value_of vs)) (old.trail.items ++ lit ∷ []) in
          subst P (sym trail) (subst Q (sym values)
          (All-push (IsTrueIn (value_of (set old.values.items lit.variable (Some lit.positive)))) old.trail.items lit
          (All-weaker (IsTrueIn (value_of old.values.items)) (IsTrueIn (value_of (set old.values.items lit.variable (Some lit.positive)))) (true_after old.values.items lit none) old.trail.items kept.noted)
          new_true));
      once = subst NamesOnce (sym trail) (once_more old.values.items old.trail.items lit kept.noted kept.once none);
    }
  where
    at : (other : Lit) → IsTrueIn (value_of old.values.items) other ⊎ (lit ≡ other) → Contains (old.trail.items ++ lit ∷ []) other
    at other (inl before) = Contains-append_left old.trail.items (lit ∷ []) other (kept.trailed other before)
    at other (inr same) = let P : Lit → Type 0 = λ l. Contains (old.trail.items ++ lit ∷ []) l in subst P same (Contains-push old.trail.items lit)

-- a literal that is due is derived, and a false clause is a conflict
pub false_derived : (start : List Lit) (clauses : List (List Lit)) (assignment : Assignment) (lit : Lit) → IsClosing start clauses assignment → IsFalseIn (value_of assignment.values.items) lit
    → Derived start clauses (opposite lit)
false_derived start clauses assignment lit closing false_in =
    All-contains (Derived start clauses) assignment.trail.items (opposite lit) closing.derived (closing.kept.trailed (opposite lit) false_in)

pub conflicts : (start : List Lit) (clauses : List (List Lit)) (assignment : Assignment) (clause : List Lit) → IsClosing start clauses assignment → Contains clauses clause
    → All (IsFalseIn (value_of assignment.values.items)) clause → Conflicts start clauses
conflicts start clauses assignment clause closing one all =
    (clause, one, λ lit is. false_derived start clauses assignment lit closing (All-contains (IsFalseIn (value_of assignment.values.items)) clause lit all is))

pub closing_more : (start : List Lit) (clauses : List (List Lit)) (old new : Assignment) (clause : List Lit) (lit : Lit) → IsClosing start clauses old → IsKept new → Contains clauses clause
    → IsDue old.values.items clause lit → new.trail.items ≡ old.trail.items ++ lit ∷ [] → IsClosing start clauses new
closing_more start clauses old new clause lit closing kept one due trail =
    let new_derived : Derived start clauses lit = forced clause lit one due.within (λ other is apart. false_derived start clauses old other closing (due.others other is apart)) in
    let P : List Lit → Type 0 = λ ls. All (Derived start clauses) ls in
    let Q : List Lit → Type 0 = λ ls. All (Contains ls) start in
    record {
      kept = kept;
      derived = subst P (sym trail) (All-push (Derived start clauses) old.trail.items lit closing.derived new_derived);
      starts = subst Q (sym trail) (All-weaker (Contains old.trail.items) (Contains (old.trail.items ++ lit ∷ [])) (λ l is. Contains-append_left old.trail.items (lit ∷ []) l is) start closing.starts);
    }

-- an assignment that leaves all clauses open leaves none
pub leaves_none : (values : List (Option Bool)) (clauses : List (List Lit)) → All (IsOpen values) clauses → LeavesNone (value_of values) clauses
leaves_none values clauses all = record {
  no_false = λ clause one each.
      let stands : IsOpen values clause = All-contains (IsOpen values) clauses clause all one in
      stands.no_false (all_from_contains (IsFalseIn (value_of values)) clause each);
  no_unit = λ clause lit one within others none.
      let stands : IsOpen values clause = All-contains (IsOpen values) clauses clause all one in
      stands.no_due lit (record { within = within; unassigned = none; others = others });
}
