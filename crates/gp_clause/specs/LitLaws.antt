use Rattle.std.specs.Prelude.{◌≡◌, ◌≢◌, ◌⊎◌, Bool, true, false, not, ◌&&◌, refl, List}
use Rattle.std.specs.Bool.{Decides}
use Rattle.std.specs.Cmp.{IsEquivalence, decided, unsigned_Decides}
use Rattle.std.specs.Cmp.Lexicographic.{pointwise, pointwise_decides, lists_equiv}
use Rattle.std.proofs.Common.{sym, ap, ◌∙◌, inl, inr}
use Rattle.std.proofs.Math.Bool.{not-not}
use Rattle.std.proofs.lemmas.Bool.{false≢true}
use Rattle.gp_clause.specs.declared.lit.Lit.{Lit}
use Rattle.gp_clause.specs.Lit.{lit_eq, opposite, same_sign}

signs_same : (a b : Bool) → Decides (same_sign a b) (a ≡ b)
signs_same true true = (λ _. refl, λ _. refl)
signs_same true false = (λ e. sym e, λ e. sym e)
signs_same false true = (λ e. e, λ e. e)
signs_same false false = (λ _. refl, λ _. refl)

both_true : (a b : Bool) → (a && b) ≡ true → (a ≡ true) × (b ≡ true)
both_true true b h = (refl, h)
both_true false b h = absurd (false≢true h)

-- two literals of one variable and of one sign are the same
pub lits_same : (a b : Lit) → a.variable ≡ b.variable → a.positive ≡ b.positive → a ≡ b
lits_same a b variables signs = λ i. record { variable = variables i; positive = signs i }

-- the test of literals tells which are the same
pub lit_eq_decides : (a b : Lit) → Decides (lit_eq a b) (a ≡ b)
lit_eq_decides a b =
    let variables = unsigned_Decides a.variable b.variable in
    let signs = signs_same a.positive b.positive in (
      λ h. let parts = both_true _ (same_sign a.positive b.positive) h in lits_same a b (variables.0 parts.0) (signs.0 parts.1),
      λ e i. variables.1 (ap (λ (lit : Lit). lit.variable) e) i && signs.1 (ap (λ (lit : Lit). lit.positive) e) i,
    )

-- the test of lists of literals tells which are the same
pub lits_decide : (xs ys : List Lit) → Decides (pointwise lit_eq xs ys) (xs ≡ ys)
lits_decide = pointwise_decides lit_eq_decides

-- the test of lists of literals is an equivalence
pub lits_equivalence : IsEquivalence (pointwise lit_eq)
lits_equivalence = lists_equiv (decided lit_eq lit_eq_decides)

-- a sign is not its own negation
pub not_both : (sign : Bool) → sign ≡ not sign → ⊥
not_both true e = cc
not_both false e = cc

-- the negation of the negation is the literal
pub opposite_twice : (lit : Lit) → opposite (opposite lit) ≡ lit
opposite_twice lit = λ i. record { variable = lit.variable; positive = not-not lit.positive i }

-- two literals are the same, or they differ
pub lits_cases : (a b : Lit) → (a ≡ b) ⊎ (a ≢ b)
lits_cases a b = at (lit_eq a b) refl
  where
    at : (same : Bool) → lit_eq a b ≡ same → (a ≡ b) ⊎ (a ≢ b)
    at true is = inl ((lit_eq_decides a b).0 is)
    at false is = inr (λ e. let clash : false ≡ true = sym is ∙ (lit_eq_decides a b).1 e in false≢true clash)
