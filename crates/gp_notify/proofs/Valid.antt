-- Up to the limits the problem of a window with its signals is valid, and so is a lifted query.
use Rattle.std.proofs.Common.{ℕ, ◌≡◌, ◌<◌, ◌≤◌, ◌+◌, ◌-◌, ap, sym, ◌∙◌, refl, subst, inl, inr, List, [], ◌∷◌, cond, length, map, Bool, true, false, arith, eqb-true, length-append}
use Rattle.std.specs.Prelude.{◌==◌}
use Rattle.std.specs.List.{AllByRecursion}
use Rattle.std.proofs.lemmas.Bool.{cases_Bool, cases_lt, eq-eqb, ne_eqb}
use Rattle.std.proofs.lemmas.List.Elements.{All-from_recursion, recursion_from_All}
use Rattle.std.proofs.lemmas.List.Sums.{sum_by-cons}
use Rattle.gp_clause.specs.declared.lit.Lit.{Lit}
use Rattle.gp_clause.specs.declared.problem.Query.{Query}
use Rattle.gp_clause.specs.Clause.{NamesBelow, NamesOnce, occurrences}
use Rattle.gp_clause.specs.Problem.{IsValidQuery}
use Rattle.gp_window.specs.WindowForm.{WindowForm}
use Rattle.gp_constraint.specs.Base.{base_of, clauses_of, first_names, names_in}
use Rattle.gp_constraint.specs.EncodedLaws.{numbered_size}
use Rattle.gp_constraint.specs.Extended.{ExtensionsMean}
use Rattle.gp_constraint.specs.Laws.{ProblemsAreValid}
use Rattle.gp_constraint.specs.Points.{points_of}
use Rattle.gp_notify.specs.Extended.{extended_of, lift, new_size, old_size}
use Rattle.gp_notify.specs.Laws.{ExtendedIsValid}
use Rattle.gp_notify.specs.Lift.{raised, raised_lit}
use Rattle.gp_notify.specs.Signals.{signals_of}
use Rattle.gp_notify.proofs.Adding.{Ground}
use Rattle.gp_notify.proofs.Fit.{signals_fit, signals_signed}
use Rattle.gp_notify.proofs.Numbers.{new_clauses, old_is, sizes_joined}
use Rattle.gp_notify.proofs.Raising.{raised_above, raised_below}

-- a lifted query names what the query names
raised_less : (old new x most : ℕ) → x < old + most → raised old new x < (old + new) + most
raised_less old new x most less =
    elim (cases_lt x old) [
      | inl low ↦ let same = raised_below old new x low in omega (arith, same, low)
      | inr high ↦ let same = raised_above old new x high in omega (arith, same, less)
    ]

raised_one : (old new x y : ℕ) → raised old new x ≡ raised old new y → x ≡ y
raised_one old new x y same =
    elim (cases_lt x old) [
      | inl low ↦
          let one = raised_below old new x low in
          elim (cases_lt y old) [
            | inl too ↦ let other = raised_below old new y too in omega (arith, same, one, other)
            | inr high ↦ let other = raised_above old new y high in absurd (omega (arith, same, one, other, low, high))
          ]
      | inr high ↦
          let one = raised_above old new x high in
          elim (cases_lt y old) [
            | inl low ↦ let other = raised_below old new y low in absurd (omega (arith, same, one, other, low, high))
            | inr too ↦ let other = raised_above old new y too in omega (arith, same, one, other)
          ]
    ]

names_raised : (old new most : ℕ) (lits : List Lit) → AllByRecursion (λ (l : Lit). l.variable < old + most) lits
    → AllByRecursion (λ (l : Lit). l.variable < (old + new) + most) (map (raised_lit old new) lits)
names_raised old new most [] h = tt
names_raised old new most (lit ∷ lits) h = (raised_less old new lit.variable most h.0, names_raised old new most lits h.1)

-- a variable stands in raised literals as often as the one that it stems from
stands : ℕ → Lit → Bool
stands v lit = lit.variable == v

occurs_raised : (old new x : ℕ) (lits : List Lit) → occurrences (raised old new x) (map (raised_lit old new) lits) ≡ occurrences x lits
occurs_raised old new x [] = refl
occurs_raised old new x (lit ∷ lits) =
    let y : ℕ = raised old new x in
    let step = sum_by-cons (λ (l : Lit). cond (l.variable == y) 1 0) (raised_lit old new lit) (map (raised_lit old new) lits) in
    let back = sum_by-cons (λ (l : Lit). cond (l.variable == x) 1 0) lit lits in
    let rest = occurs_raised old new x lits in
    elim (cases_Bool (lit.variable == x)) [
      | inl here ↦
          let same : lit.variable ≡ x = eqb-true lit.variable x here in
          let there : (raised old new lit.variable == y) ≡ true = eq-eqb (raised old new lit.variable) y (ap (raised old new) same) in
          let one : ◌≡◌ {A = ℕ} (cond (raised old new lit.variable == y) 1 0) 1 = rw there refl in
          let other : ◌≡◌ {A = ℕ} (cond (lit.variable == x) 1 0) 1 = rw here refl in
          omega (arith, step, back, rest, one, other)
      | inr apart ↦
          let there : (raised old new lit.variable == y) ≡ false = ne_eqb (raised old new lit.variable) y (λ same. differ apart (raised_one old new lit.variable x same)) in
          let one : ◌≡◌ {A = ℕ} (cond (raised old new lit.variable == y) 1 0) 0 = rw there refl in
          let other : ◌≡◌ {A = ℕ} (cond (lit.variable == x) 1 0) 0 = rw apart refl in
          omega (arith, step, back, rest, one, other)
    ]
  where
    differ : (lit.variable == x) ≡ false → lit.variable ≡ x → ⊥
    differ apart same = let tied = eq-eqb lit.variable x same in (let bad : true ≡ false = sym tied ∙ apart in cc)

-- a new variable stands in none
occurs_none : (old new y : ℕ) (lits : List Lit) → old ≤ y → y < old + new → occurrences y (map (raised_lit old new) lits) ≡ 0
occurs_none old new y [] low high = refl
occurs_none old new y (lit ∷ lits) low high =
    let step = sum_by-cons (λ (l : Lit). cond (l.variable == y) 1 0) (raised_lit old new lit) (map (raised_lit old new) lits) in
    let rest = occurs_none old new y lits low high in
    let there : (raised old new lit.variable == y) ≡ false = ne_eqb (raised old new lit.variable) y (λ same. elim (cases_lt lit.variable old) [
      | inl less ↦ let at = raised_below old new lit.variable less in absurd (omega (arith, same, at, low, less))
      | inr most ↦ let at = raised_above old new lit.variable most in absurd (omega (arith, same, at, high, most))
    ]) in
    let one : ◌≡◌ {A = ℕ} (cond (raised old new lit.variable == y) 1 0) 0 = rw there refl in
    omega (arith, step, rest, one)

once_raised : (old new : ℕ) (lits : List Lit) → NamesOnce lits → NamesOnce (map (raised_lit old new) lits)
once_raised old new lits once y =
    elim (cases_lt y old) [
      | inl low ↦
          let same = raised_below old new y low in
          let occurs = occurs_raised old new y lits in
          let few = once y in
          let moved : occurrences y (map (raised_lit old new) lits) ≡ occurrences (raised old new y) (map (raised_lit old new) lits) =
          ap (λ v. occurrences v (map (raised_lit old new) lits)) (sym same) in
          omega (arith, moved, occurs, few)
      | inr high ↦ elim (cases_lt y (old + new)) [
        | inl middle ↦ let none = occurs_none old new y lits high middle in omega (arith, none)
        | inr last ↦
            let x : ℕ = y - new in
            let back : old ≤ x = omega (arith, last) in
            let sum : x + new ≡ y = omega (arith, last) in
            let same : raised old new x ≡ y = raised_above old new x back ∙ sum in
            let occurs = occurs_raised old new x lits in
            let few = once x in
            let moved : occurrences y (map (raised_lit old new) lits) ≡ occurrences (raised old new x) (map (raised_lit old new) lits) =
            ap (λ v. occurrences v (map (raised_lit old new) lits)) (sym same) in
            omega (arith, moved, occurs, few)
      ]
    ]

lifted_valid : (window : WindowForm) (query : Query) → IsValidQuery (base_of window) query → IsValidQuery (extended_of window) (lift window query)
lifted_valid window query q =
    let old : ℕ = old_size window in
    let new : ℕ = new_size window in
    let one = old_is window in
    let joined = sizes_joined window in
    let size : (old + new) + length query.locals ≡ length (extended_of window).kinds + length query.locals = omega (arith, joined) in
    let before : length (base_of window).kinds + length query.locals ≡ old + length query.locals = omega (arith, one) in
    let named = subst (λ (n : ℕ). NamesBelow n query.assumed) before q.assumed in
    record {
      few_locals = q.few_locals;
      locals = q.locals;
      assumed = subst (λ (n : ℕ). NamesBelow n (map (raised_lit old new) query.assumed)) size
          (All-from_recursion (λ (l : Lit). l.variable < (old + new) + length query.locals) (map (raised_lit old new) query.assumed)
          (names_raised old new (length query.locals) query.assumed (recursion_from_All (λ (l : Lit). l.variable < old + length query.locals) query.assumed named)));
      once = once_raised old new query.assumed q.once;
    }

few_clauses : (window : WindowForm) → length (clauses_of window) + length (signals_of window) ≤ 500000 → length (extended_of window).clauses ≤ 500000
few_clauses window limit =
    let joined = length-append (base_of window).clauses (new_clauses window) in
    let one = numbered_size (first_names window) (clauses_of window) in
    let two = numbered_size (names_in window) (signals_of window) in
    omega (arith, joined, one, two, limit)

pub valid_within : ExtensionsMean → ProblemsAreValid → (window : WindowForm) → length (points_of window) ≤ 2048
    → length (clauses_of window) + length (signals_of window) ≤ 500000 → Ground window
valid_within extensions valid window few limit = record {
  base = valid.base window few (omega (arith, limit));
  extended = extensions.valid window (signals_of window) few limit (signals_fit window few);
}

pub extended_valid : ExtensionsMean → ProblemsAreValid → ExtendedIsValid
extended_valid extensions valid = record {
  problem = λ window few limit. (valid_within extensions valid window few limit).extended;
  few_clauses = few_clauses;
  solvable = valid.solvable;
  query = lifted_valid;
  signed = signals_signed;
}
