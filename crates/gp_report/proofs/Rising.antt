-- Literals whose variables rise: by their test, and by index.
use Rattle.std.proofs.Common.{◌≡◌, refl, sym, ℕ, zero, suc, ◌+◌, ◌<◌, ◌≤◌, Bool, MatchBool, true, false, List, [], ◌∷◌, length, get_or, arith, inl, inr}
use Rattle.std.specs.Prelude.{nat_lt}
use native.Mathlib.Numerals.{unary_clauses}
use Rattle.std.specs.List.{IsAllAdjacentAnswer}
use Rattle.std.proofs.lemmas.Bool.{and_from, and_parts, cases_Bool, lt-ltb, ltb-true}
use Rattle.gp_clause.specs.declared.lit.Lit.{Lit}
use Rattle.gp_clause.specs.Clause.{IsRising}
use Rattle.gp_base.specs.CountLaws.{rising_rest}
use Rattle.gp_report.specs.Reading.{rises}

-- by its test a list rises
pub rising_from_test : (lits : List Lit) → rises lits ≡ true → IsRising lits
rising_from_test [] test = λ k d within. absurd (omega arith)
rising_from_test (lit ∷ []) test = λ k d within. absurd (omega arith)
rising_from_test (lit ∷ next ∷ lits) test =
    let parts = and_parts (nat_lt lit.variable next.variable) (rises (next ∷ lits)) test in
    let first : lit.variable < next.variable = ltb-true lit.variable next.variable parts.0 in
    let rest : IsRising (next ∷ lits) = rising_from_test (next ∷ lits) parts.1 in
    λ k d within. at k d first rest within
  where
    at : (k : ℕ) (d : Lit) → lit.variable < next.variable → IsRising (next ∷ lits) → k + 1 < length (lit ∷ next ∷ lits)
        → (get_or (lit ∷ next ∷ lits) k d).variable < (get_or (lit ∷ next ∷ lits) (k + 1) d).variable
    at zero d first rest within = first
    at (suc k) d first rest within =
        let here : (get_or (next ∷ lits) k d).variable < (get_or (next ∷ lits) (k + 1) d).variable = rest k d (omega arith) in
        simp unary_clauses (simp unary_clauses at here)

-- a list that rises passes the test
pub test_from_rising : (lits : List Lit) → IsRising lits → rises lits ≡ true
test_from_rising [] rising = refl
test_from_rising (lit ∷ []) rising = refl
test_from_rising (lit ∷ next ∷ lits) rising =
    let first : lit.variable < next.variable = rising 0 lit (omega arith) in
    and_from _ _ (lt-ltb lit.variable next.variable first) (test_from_rising (next ∷ lits) (rising_rest (λ (l : Lit). l.variable) lit (next ∷ lits) rising))

-- what a test of neighbours answers is what the test tells
pub rises_answered : (lits : List Lit) (answer : Bool) → IsAllAdjacentAnswer {X = Lit} (λ a b rises. MatchBool rises (a.variable < b.variable) (b.variable ≤ a.variable)) lits answer → answer ≡ rises lits
rises_answered lits true rising = sym (test_from_rising lits rising)
rises_answered lits false falls = elim (cases_Bool (rises lits)) [
  | inl test ↦
      let d : Lit = record { variable = 0; positive = false } in
      let up = rising_from_test lits test falls.0 d falls.1 in
      let down = falls.2 d in
      absurd (omega (arith, up, down))
  | inr test ↦ sym test
]
