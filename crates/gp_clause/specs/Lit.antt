use Rattle.std.specs.Prelude.{◌≡◌, ℕ, Bool, true, false, not, ◌==◌, ◌&&◌, ◌↔◌, List, map}
use Rattle.gp_clause.specs.declared.lit.Lit.{Lit}

-- the negation of a literal
abbrev pub opposite : Lit → Lit
opposite lit = record { variable = lit.variable; positive = not lit.positive }

-- the negation of each literal
abbrev pub negations : List Lit → List Lit
negations lits = map opposite lits

-- a literal is true where its variable has its sign
abbrev pub HoldsLit : (ℕ → Bool) → Lit → Type 0
HoldsLit truth lit = truth lit.variable ≡ lit.positive

-- whether two signs are the same
abbrev pub same_sign : Bool → Bool → Bool
same_sign true sign = sign
same_sign false sign = not sign

-- whether two literals are the same
abbrev pub lit_eq : Lit → Lit → Bool
lit_eq a b = a.variable == b.variable && same_sign a.positive b.positive

-- of a literal and its negation exactly one is true
abbrev pub OppositeMeans : Type 0
OppositeMeans = (truth : ℕ → Bool) (lit : Lit) → HoldsLit truth (opposite lit) ↔ (HoldsLit truth lit → ⊥)
