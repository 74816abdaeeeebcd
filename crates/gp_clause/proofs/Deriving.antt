-- What is derived from what is true is true.
use Rattle.std.proofs.Common.{◌≡◌, ◌≢◌, refl, sym, ◌∙◌, subst, ℕ, Bool, true, false, List}
use Rattle.std.specs.List.{All, Contains}
use Rattle.std.proofs.lemmas.List.Elements.{All-contains}
use Rattle.gp_clause.specs.declared.lit.Lit.{Lit}
use Rattle.gp_clause.specs.Clause.{HoldsClause, HoldsAll}
use Rattle.gp_clause.specs.Closure.{Derived, Conflicts}
use Rattle.gp_clause.specs.Closure.Derived.{given, forced}
use Rattle.gp_clause.specs.Lit.{HoldsLit, lit_eq, opposite}
use Rattle.gp_clause.specs.LitLaws.{lit_eq_decides, not_both}

-- a literal that is true is the one that is left, where the negation of each other one is true
by_test : (truth : ℕ → Bool) (x lit : Lit) (b : Bool) → lit_eq x lit ≡ b → HoldsLit truth x
    → (x ≢ lit → HoldsLit truth (opposite x)) → HoldsLit truth lit
by_test truth x lit true same holds other =
    let P : Lit → Type 0 = λ l. HoldsLit truth l in
    subst P ((lit_eq_decides x lit).0 same) holds
by_test truth x lit false differ holds other =
    let apart : x ≢ lit = λ e. let same : lit_eq x lit ≡ true = (lit_eq_decides x lit).1 e in cc in
    absurd (not_both x.positive (sym holds ∙ other apart))

-- where a clause is true and the negation of each of its other literals is, the one that is left is true
last_true : (truth : ℕ → Bool) (clause : List Lit) (lit : Lit) → HoldsClause truth clause
    → ((other : Lit) → Contains clause other → other ≢ lit → HoldsLit truth (opposite other)) → HoldsLit truth lit
last_true truth clause lit (k, x, below, is, holds) others =
    by_test truth x lit (lit_eq x lit) refl holds (others x (k, below, is))

-- each literal that is derived is true
pub derived_true : (start : List Lit) (clauses : List (List Lit)) (truth : ℕ → Bool) → All (HoldsLit truth) start → HoldsAll truth clauses
    → (lit : Lit) → Derived start clauses lit → HoldsLit truth lit
derived_true start clauses truth starts trues lit (given l is) = All-contains (HoldsLit truth) start l starts is
derived_true start clauses truth starts trues lit (forced clause l among within others) =
    last_true truth clause l (All-contains (HoldsClause truth) clauses clause trues among)
    (λ other is apart. derived_true start clauses truth starts trues (opposite other) (others other is apart))

-- and no clause is false
pub no_conflict : (start : List Lit) (clauses : List (List Lit)) (truth : ℕ → Bool) → All (HoldsLit truth) start → HoldsAll truth clauses
    → Conflicts start clauses → ⊥
no_conflict start clauses truth starts trues (clause, among, negated) =
    let holds : HoldsClause truth clause = All-contains (HoldsClause truth) clauses clause trues among in
    no_true truth clause holds (λ lit is. derived_true start clauses truth starts trues (opposite lit) (negated lit is))
  where
    no_true : (truth : ℕ → Bool) (clause : List Lit) → HoldsClause truth clause
        → ((lit : Lit) → Contains clause lit → HoldsLit truth (opposite lit)) → ⊥
    no_true truth clause (k, x, below, is, holds) negations = not_both x.positive (sym holds ∙ negations x (k, below, is))
