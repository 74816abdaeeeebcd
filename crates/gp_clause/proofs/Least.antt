-- A closed partial assignment has all that is derived.
use Rattle.std.proofs.Common.{◌≡◌, ◌≢◌, refl, sym, ◌∙◌, ap, ℕ, Bool, true, false, not, List, Option, Some, None}
use Rattle.std.specs.List.{All, Contains}
use Rattle.std.proofs.lemmas.List.Elements.{All-contains}
use Rattle.gp_clause.specs.declared.lit.Lit.{Lit}
use Rattle.gp_clause.specs.Closure.{Derived, Conflicts, IsTrueIn, IsFalseIn, LeavesNone}
use Rattle.gp_clause.specs.Closure.Derived.{given, forced}
use Rattle.gp_clause.specs.Lit.{lit_eq, opposite}
use Rattle.gp_clause.specs.LitLaws.{lit_eq_decides}

-- where the negation of a literal is true, the literal is false
false_from_opposite : (values : ℕ → Option Bool) (lit : Lit) → IsTrueIn values (opposite lit) → IsFalseIn values lit
false_from_opposite values lit is = is

-- a value is that of the literal or the other one
by_value : (values : ℕ → Option Bool) (lit : Lit) (value : Option Bool) → values lit.variable ≡ value
    → (value ≡ None → ⊥) → (IsFalseIn values lit → ⊥) → IsTrueIn values lit
by_value values lit None is some other = absurd (some refl)
by_value values lit (Some b) is some other = by_sign lit.positive b refl is
  where
    by_sign : (p b : Bool) → lit.positive ≡ p → values lit.variable ≡ Some b → IsTrueIn values lit
    by_sign true true positive is = is ∙ ap Some (sym positive)
    by_sign false false positive is = is ∙ ap Some (sym positive)
    by_sign true false positive is = absurd (other (is ∙ ap (λ q. Some (not q)) (sym positive)))
    by_sign false true positive is = absurd (other (is ∙ ap (λ q. Some (not q)) (sym positive)))

-- a clause whose other literals are false is not false, so its last literal is not
each_false : (values : ℕ → Option Bool) (clause : List Lit) (lit : Lit)
    → ((other : Lit) → Contains clause other → other ≢ lit → IsFalseIn values other) → IsFalseIn values lit
    → (other : Lit) → Contains clause other → IsFalseIn values other
each_false values clause lit others is other within = by_test (lit_eq other lit) refl
  where
    by_test : (b : Bool) → lit_eq other lit ≡ b → IsFalseIn values other
    by_test true same = let e : other ≡ lit = (lit_eq_decides other lit).0 same in rw e is
    by_test false differ = others other within (λ e. let same : lit_eq other lit ≡ true = (lit_eq_decides other lit).1 e in cc)

-- each literal that is derived is true
pub derived_true_in : (start : List Lit) (clauses : List (List Lit)) (values : ℕ → Option Bool) → All (IsTrueIn values) start
    → LeavesNone values clauses → (lit : Lit) → Derived start clauses lit → IsTrueIn values lit
derived_true_in start clauses values starts none lit (given l is) = All-contains (IsTrueIn values) start l starts is
derived_true_in start clauses values starts none lit (forced clause l among within others) =
    let false_too : (other : Lit) → Contains clause other → other ≢ l → IsFalseIn values other =
    λ other is apart. false_from_opposite values other (derived_true_in start clauses values starts none (opposite other) (others other is apart)) in
    by_value values l (values l.variable) refl
    (λ free. none.no_unit clause l among within false_too free)
    (λ fell. none.no_false clause among (each_false values clause l false_too fell))

-- and no clause is false
pub no_conflict_in : (start : List Lit) (clauses : List (List Lit)) (values : ℕ → Option Bool) → All (IsTrueIn values) start
    → LeavesNone values clauses → Conflicts start clauses → ⊥
no_conflict_in start clauses values starts none (clause, among, negated) =
    none.no_false clause among (λ lit is.
    false_from_opposite values lit (derived_true_in start clauses values starts none (opposite lit) (negated lit is)))
