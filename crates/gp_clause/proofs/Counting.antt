-- A clause as a number in base three.
use Rattle.std.proofs.Common.{◌≡◌, ◌≢◌, refl, sym, ◌∙◌, ap, subst, ℕ, ◌+◌, ◌*◌, ◌^◌, ◌<◌, ◌≤◌, ◌==◌, zero, suc, Bool, true, false, cond, List, [], ◌∷◌, map, length, get_or, inl, inr, arith}
use mathlib.Core.Bool.{◌||◌}
use Rattle.std.specs.Prelude.{All, AllPairs}
use Rattle.std.specs.List.{IsDistinct, list_any}
use Rattle.std.proofs.Math.Nat.{pow-succ'}
use Rattle.std.proofs.lemmas.Bool.{cases_eq, eq-eqb, eqb-true, ne_eqb}
use Rattle.std.proofs.lemmas.List.{get_or-map, length-map}
use Rattle.std.proofs.lemmas.List.Elements.{All-head, All-tail, All-map, All-cons}
use Rattle.std.proofs.lemmas.Map.Keys.{IsDistinct-from_apart}
use Rattle.std.proofs.lemmas.Map.Steps.{length-le_from_distinct_below}
use Rattle.gp_clause.specs.declared.lit.Lit.{Lit}
use Rattle.gp_clause.specs.Clause.{IsRising, NamesBelow}
use Rattle.gp_clause.specs.Counting.{AreDistinctClauses}
use Rattle.gp_base.specs.CountLaws.{rising_rest}

-- the digit of a literal by its sign
abbrev digit : Bool → ℕ
digit true = 1
digit false = 2

-- the digit of a variable in a clause that rises from it
abbrev first : ℕ → List Lit → ℕ
first k [] = 0
first k (lit ∷ lits) = cond (lit.variable == k) (digit lit.positive) 0

-- the clause without this variable
abbrev rest : ℕ → List Lit → List Lit
rest k [] = []
rest k (lit ∷ lits) = cond (lit.variable == k) lits (lit ∷ lits)

-- the number of a clause over so many variables from one on
abbrev number : ℕ → ℕ → List Lit → ℕ
number zero k clause = 0
number (suc n) k clause = first k clause + 3 * number n (k + 1) (rest k clause)

-- the variables of a clause rise from one on, and stay below an end
abbrev RisesTo : ℕ → ℕ → List Lit → Type 0
RisesTo k end [] = Unit {0}
RisesTo k end (lit ∷ lits) = (k ≤ lit.variable) × (lit.variable < end) × RisesTo (lit.variable + 1) end lits

digit_few : (sign : Bool) → digit sign ≤ 2
digit_few true = omega arith
digit_few false = omega arith

digit_some : (sign : Bool) → 0 < digit sign
digit_some true = omega arith
digit_some false = omega arith

digit_tells : (sign other : Bool) → digit sign ≡ digit other → sign ≡ other
digit_tells true true same = refl
digit_tells true false same = absurd (omega (arith, same))
digit_tells false true same = absurd (omega (arith, same))
digit_tells false false same = refl

first_few : (k : ℕ) (clause : List Lit) → first k clause ≤ 2
first_few k [] = omega arith
first_few k (lit ∷ lits) = at (lit.variable == k)
  where
    at : (here : Bool) → cond here (digit lit.positive) 0 ≤ 2
    at true = digit_few lit.positive
    at false = omega arith

number_few : (n k : ℕ) (clause : List Lit) → number n k clause < 3 ^ n
number_few zero k clause = omega arith
number_few (suc n) k clause = omega (arith, pow-succ' 3 n, first_few k clause, number_few n (k + 1) (rest k clause))

-- a literal has a digit, or stands in what is left
some_part : (k : ℕ) (lit : Lit) (lits : List Lit) → first k (lit ∷ lits) ≡ 0 → rest k (lit ∷ lits) ≡ [] → ⊥
some_part k lit lits = at (lit.variable == k)
  where
    at : (here : Bool) → cond here (digit lit.positive) 0 ≡ 0 → cond here lits (lit ∷ lits) ≡ [] → ⊥
    at true none gone = omega (arith, none, digit_some lit.positive)
    at false none gone = cc

-- the two parts tell the clause
same_parts : (k : ℕ) (clause other : List Lit) → first k clause ≡ first k other → rest k clause ≡ rest k other → clause ≡ other
same_parts k [] [] f r = refl
same_parts k [] (lit ∷ lits) f r = absurd (some_part k lit lits (sym f) (sym r))
same_parts k (lit ∷ lits) [] f r = absurd (some_part k lit lits f r)
same_parts k (lit ∷ lits) (one ∷ more) f r = at (lit.variable == k) (one.variable == k) refl refl f r
  where
    at : (here there : Bool) → (lit.variable == k) ≡ here → (one.variable == k) ≡ there → cond here (digit lit.positive) 0 ≡ cond there (digit one.positive) 0
        → cond here lits (lit ∷ lits) ≡ cond there more (one ∷ more) → lit ∷ lits ≡ one ∷ more
    at true true a b digits left =
        let variables : lit.variable ≡ one.variable = eqb-true lit.variable k a ∙ sym (eqb-true one.variable k b) in
        let signs : lit.positive ≡ one.positive = digit_tells lit.positive one.positive digits in
        λ i. record { variable = variables i; positive = signs i } ∷ left i
    at true false a b digits left = absurd (omega (arith, digits, digit_some lit.positive))
    at false true a b digits left = absurd (omega (arith, digits, digit_some one.positive))
    at false false a b digits left = left

rest_rises : (k end : ℕ) (clause : List Lit) → RisesTo k end clause → RisesTo (k + 1) end (rest k clause)
rest_rises k end [] rises = tt
rest_rises k end (lit ∷ lits) rises = at (lit.variable == k) refl
  where
    at : (here : Bool) → (lit.variable == k) ≡ here → RisesTo (k + 1) end (cond here lits (lit ∷ lits))
    at true is = subst (λ (v : ℕ). RisesTo (v + 1) end lits) (eqb-true lit.variable k is) rises.2
    at false is = (above, rises.1, rises.2)
      where
        above : k + 1 ≤ lit.variable
        above = elim (cases_eq lit.variable k) [
          | inl same ↦ absurd (let on : (lit.variable == k) ≡ true = eq-eqb lit.variable k same in let clash : ⊥ = cc in clash)
          | inr differ ↦ omega (arith, differ, rises.0)
        ]

-- a number is that of one clause at most
one_number : (n k end : ℕ) (clause other : List Lit) → end ≡ k + n → RisesTo k end clause → RisesTo k end other → number n k clause ≡ number n k other → clause ≡ other
one_number zero k end [] [] is rises others same = refl
one_number zero k end [] (lit ∷ lits) is rises others same = absurd (omega (arith, is, others.0, others.1))
one_number zero k end (lit ∷ lits) other is rises others same = absurd (omega (arith, is, rises.0, rises.1))
one_number (suc n) k end clause other is rises others same = same_parts k clause other (omega (arith, same, first_few k clause, first_few k other))
    (one_number n (k + 1) end (rest k clause) (rest k other) (omega (arith, is)) (rest_rises k end clause rises) (rest_rises k end other others)
    (omega (arith, same, first_few k clause, first_few k other)))

rises_to : (k end : ℕ) (lits : List Lit) → ((d : Lit) → 0 < length lits → k ≤ (get_or lits 0 d).variable) → IsRising lits → NamesBelow end lits → RisesTo k end lits
rises_to k end [] low rising named = tt
rises_to k end (lit ∷ lits) low rising named = (
  low lit (omega arith),
  All-head (λ (l : Lit). l.variable < end) lit lits named,
  rises_to (lit.variable + 1) end lits (λ d some. let step : lit.variable < (get_or lits 0 d).variable = rising 0 d (omega (arith, some)) in omega (arith, step)) (rising_rest (λ (l : Lit). l.variable) lit lits rising)
      (All-tail (λ (l : Lit). l.variable < end) lit lits named),
)

-- what is in a list of numbers below a bound is below it
below_any : (bound q : ℕ) (xs : List ℕ) → All (λ y. y < bound) xs → list_any (λ y. q == y) xs ≡ true → q < bound
below_any bound q [] all is = absurd (let off : false ≡ true = is in let clash : ⊥ = cc in clash)
below_any bound q (x ∷ xs) all is = at (q == x) refl is (below_any bound q xs (All-tail (λ y. y < bound) x xs all))
  where
    at : (here : Bool) → (q == x) ≡ here → (here || list_any (λ y. q == y) xs) ≡ true → (list_any (λ y. q == y) xs ≡ true → q < bound) → q < bound
    at true same among later = subst (λ (n : ℕ). n < bound) (sym (eqb-true q x same)) (All-head (λ y. y < bound) x xs all)
    at false differ among later = later among

-- clauses that rise below an end, no two of them the same, are at most three to the power of the end
at_most : (v : ℕ) (clauses : List (List Lit)) → All (RisesTo 0 v) clauses → AllPairs (λ (clause other : List Lit). clause ≢ other) clauses → length clauses ≤ 3 ^ v
at_most v clauses rises distinct = omega (
  arith,
  length-map clauses (number v 0),
  length-le_from_distinct_below (map (number v 0) clauses) (3 ^ v) apart
      (λ q among. below_any (3 ^ v) q (map (number v 0) clauses) (All-map (λ y. y < 3 ^ v) (number v 0) clauses (λ k d below. number_few v 0 (get_or clauses k d))) among),
)
  where
    apart : IsDistinct (λ a b. a == b) (map (number v 0) clauses)
    apart = IsDistinct-from_apart (λ a b. a == b) (map (number v 0) clauses) (λ i j d before within.
        let inside : j < length clauses = omega (arith, within, length-map clauses (number v 0)) in
        ne_eqb (get_or (map (number v 0) clauses) i d) (get_or (map (number v 0) clauses) j d) (λ same.
        distinct i j [] before inside (one_number v 0 v (get_or clauses i []) (get_or clauses j []) (omega arith) (rises i [] (omega (arith, before, inside))) (rises j [] inside)
        (sym (get_or-map (number v 0) clauses i [] d (omega (arith, before, inside))) ∙ same ∙ get_or-map (number v 0) clauses j [] d inside))))

-- the clauses beside the empty one
pub few : (v : ℕ) (clauses : List (List Lit)) → AreDistinctClauses v clauses → length clauses < 3 ^ v
few v clauses are = omega (arith, at_most v ([] ∷ clauses) (All-cons (RisesTo 0 v) [] clauses tt (λ k d below. rises_to 0 v (get_or clauses k d) (λ e some. omega arith) (are.rising k d below) (are.named k d below))) distinct)
  where
    distinct : AllPairs (λ (clause other : List Lit). clause ≢ other) ([] ∷ clauses)
    distinct i zero d before within same = omega (arith, before)
    distinct zero (suc j) d before within same = omega (arith, are.filled j d (omega (arith, within)), ap (λ (xs : List Lit). length xs) same)
    distinct (suc i) (suc j) d before within same = are.distinct i j d (omega (arith, before)) (omega (arith, within)) same
