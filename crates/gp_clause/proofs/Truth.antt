use Rattle.std.proofs.Common.{◌≡◌, ℕ, Bool, true, false, not, [], ◌∷◌, All, ◌⊎◌, inl, inr, suc, refl, arith}
use Rattle.std.proofs.lemmas.List.Elements.{All-nil, All-cons}
use Rattle.gp_clause.specs.declared.lit.Lit.{Lit}
use Rattle.gp_clause.specs.Lit.{HoldsLit, opposite}
use Rattle.gp_clause.specs.Clause.{HoldsClause, TrueOrFalse}

-- either a literal is true or its negation is
pub lit_true_or_false : (truth : ℕ → Bool) (lit : Lit) → HoldsLit truth lit ⊎ HoldsLit truth (opposite lit)
lit_true_or_false truth lit = at (truth lit.variable) lit.positive
  where
    at : (value sign : Bool) → (value ≡ sign) ⊎ (value ≡ not sign)
    at true true = inl refl
    at true false = inr refl
    at false true = inr refl
    at false false = inl refl

pub true_or_false : TrueOrFalse
true_or_false truth [] = inr (All-nil (λ lit. HoldsLit truth (opposite lit)))
true_or_false truth (lit ∷ lits) = at (lit_true_or_false truth lit) (true_or_false truth lits)
  where
    at : HoldsLit truth lit ⊎ HoldsLit truth (opposite lit) → HoldsClause truth lits ⊎ All (λ other. HoldsLit truth (opposite other)) lits
        → HoldsClause truth (lit ∷ lits) ⊎ All (λ other. HoldsLit truth (opposite other)) (lit ∷ lits)
    at (inl holds) rest = inl (0, lit, omega arith, refl, holds)
    at (inr fails) (inl (k, other, within, is, holds)) = inl (suc k, other, omega arith, is, holds)
    at (inr fails) (inr rest) = inr (All-cons (λ other. HoldsLit truth (opposite other)) lit lits fails rest)
