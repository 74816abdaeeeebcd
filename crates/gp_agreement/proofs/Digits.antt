-- A clause as a number in base three, whatever the order of its literals.
use Rattle.std.proofs.Common.{◌≡◌, refl, sym, ◌∙◌, ap, subst, ℕ, ◌+◌, ◌*◌, ◌^◌, ◌<◌, ◌≤◌, ◌==◌, zero, suc, Bool, true, false, cond, List, [], ◌∷◌, Contains, ◌⊎◌, inl, inr, arith}
use Rattle.std.proofs.Math.Nat.{pow-succ'}
use Rattle.std.proofs.lemmas.Bool.{cases_eq, eq-eqb, eqb-true}
use Rattle.gp_base.specs.ListLaws.{first_or_rest, here, nothing_in, there}
use Rattle.gp_clause.specs.declared.lit.Lit.{Lit}

-- the digit of a sign
abbrev sign_digit : Bool → ℕ
sign_digit true = 1
sign_digit false = 2

-- the digit of a variable in a clause: that of the first literal that has it, and 0 where none has
abbrev digit : ℕ → List Lit → ℕ
digit v [] = 0
digit v (lit ∷ lits) = cond (lit.variable == v) (sign_digit lit.positive) (digit v lits)

-- the number of a clause over so many variables from one on
abbrev pub number : ℕ → ℕ → List Lit → ℕ
number zero v clause = 0
number (suc n) v clause = digit v clause + 3 * number n (v + 1) clause

-- no variable stands in a clause with both signs
abbrev pub IsConsistent : List Lit → Type 0
IsConsistent clause = (one other : Lit) → Contains clause one → Contains clause other → one.variable ≡ other.variable → one.positive ≡ other.positive

sign_few : (sign : Bool) → sign_digit sign ≤ 2
sign_few true = omega arith
sign_few false = omega arith

sign_some : (sign : Bool) → 0 < sign_digit sign
sign_some true = omega arith
sign_some false = omega arith

sign_tells : (sign other : Bool) → sign_digit sign ≡ sign_digit other → sign ≡ other
sign_tells true true same = refl
sign_tells true false same = absurd (omega (arith, same))
sign_tells false true same = absurd (omega (arith, same))
sign_tells false false same = refl

digit_few : (v : ℕ) (clause : List Lit) → digit v clause ≤ 2
digit_few v [] = omega arith
digit_few v (lit ∷ lits) = at (lit.variable == v) (digit_few v lits)
  where
    at : (here : Bool) → digit v lits ≤ 2 → cond here (sign_digit lit.positive) (digit v lits) ≤ 2
    at true rest = sign_few lit.positive
    at false rest = rest

pub number_few : (n v : ℕ) (clause : List Lit) → number n v clause < 3 ^ n
number_few zero v clause = omega arith
number_few (suc n) v clause = omega (arith, pow-succ' 3 n, digit_few v clause, number_few n (v + 1) clause)

number_none : (n v : ℕ) → number n v [] ≡ 0
number_none zero v = refl
number_none (suc n) v = omega (arith, number_none n (v + 1))

-- clauses of one number have the same digits
same_digits : (n v w : ℕ) (clause other : List Lit) → number n v clause ≡ number n v other → v ≤ w → w < v + n → digit w clause ≡ digit w other
same_digits zero v w clause other same low high = absurd (omega (arith, low, high))
same_digits (suc n) v w clause other same low high =
    elim (cases_eq v w) [
      | inl first ↦ subst (λ (u : ℕ). digit u clause ≡ digit u other) first (omega (arith, same, digit_few v clause, digit_few v other))
      | inr differ ↦ same_digits n (v + 1) w clause other (omega (arith, same, digit_few v clause, digit_few v other)) (omega (arith, low, differ)) (omega (arith, high))
    ]

-- a literal's variable has a digit
digit_some : (clause : List Lit) (lit : Lit) → Contains clause lit → 0 < digit lit.variable clause
digit_some [] lit is = absurd (nothing_in lit is)
digit_some (x ∷ clause) lit is = at (x.variable == lit.variable) refl (first_or_rest x clause lit is) (digit_some clause lit)
  where
    at : (same : Bool) → (x.variable == lit.variable) ≡ same → (x ≡ lit) ⊎ Contains clause lit → (Contains clause lit → 0 < digit lit.variable clause)
        → 0 < cond same (sign_digit x.positive) (digit lit.variable clause)
    at true own among more = sign_some x.positive
    at false off (inl equal) more = absurd (let on : (x.variable == lit.variable) ≡ true = eq-eqb x.variable lit.variable (ap (λ (l : Lit). l.variable) equal) in let clash : ⊥ = cc in clash)
    at false off (inr rest) more = more rest

-- a digit is that of a literal
digit_of : (v : ℕ) (clause : List Lit) → 0 < digit v clause → (lit : Lit) × Contains clause lit × (lit.variable ≡ v) × (digit v clause ≡ sign_digit lit.positive)
digit_of v [] some = absurd (omega (arith, some))
digit_of v (x ∷ clause) some = at (x.variable == v) refl some (digit_of v clause)
  where
    at : (same : Bool) → (x.variable == v) ≡ same → 0 < cond same (sign_digit x.positive) (digit v clause)
        → (0 < digit v clause → (lit : Lit) × Contains clause lit × (lit.variable ≡ v) × (digit v clause ≡ sign_digit lit.positive))
        → (lit : Lit) × Contains (x ∷ clause) lit × (lit.variable ≡ v) × (cond same (sign_digit x.positive) (digit v clause) ≡ sign_digit lit.positive)
    at true own any more = (x, here x clause, eqb-true x.variable v own, refl)
    at false off any more = let rest = more any in (rest.0, there x clause rest.0 rest.1, rest.2, rest.3)

digit_tells : (clause : List Lit) (lit : Lit) → IsConsistent clause → Contains clause lit → digit lit.variable clause ≡ sign_digit lit.positive
digit_tells clause lit consistent is =
    let one = digit_of lit.variable clause (digit_some clause lit is) in
    one.3 ∙ ap sign_digit (consistent one.0 lit one.1 is one.2)

-- what stands in a clause stands in each other one of its number
pub stands_too : (n : ℕ) (clause other : List Lit) (lit : Lit) → IsConsistent clause → number n 0 clause ≡ number n 0 other → lit.variable < n → Contains clause lit → Contains other lit
stands_too n clause other lit consistent same below is =
    let digits : digit lit.variable clause ≡ digit lit.variable other = same_digits n 0 lit.variable clause other same (omega arith) (omega (arith, below)) in
    let one = digit_of lit.variable other (subst (λ (d : ℕ). 0 < d) digits (digit_some clause lit is)) in
    let signs : one.0.positive ≡ lit.positive = sign_tells one.0.positive lit.positive (sym one.3 ∙ sym digits ∙ digit_tells clause lit consistent is) in
    let equal : one.0 ≡ lit = λ i. record { variable = one.2 i; positive = signs i } in
    subst (λ (l : Lit). Contains other l) equal one.1

-- a clause with a literal has a number above 0
pub number_some : (n : ℕ) (clause : List Lit) (lit : Lit) → lit.variable < n → Contains clause lit → number n 0 clause ≡ 0 → ⊥
number_some n clause lit below is none =
    let digits : digit lit.variable clause ≡ digit lit.variable [] = same_digits n 0 lit.variable clause [] (none ∙ sym (number_none n 0)) (omega arith) (omega (arith, below)) in
    omega (arith, digits, digit_some clause lit is)

pub power_some : (n : ℕ) → 0 < 3 ^ n
power_some n = omega (arith, number_few n 0 [], number_none n 0)
