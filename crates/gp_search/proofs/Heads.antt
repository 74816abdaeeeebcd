-- From a conflict, and clauses each of which has one true literal, a refutation without the conflict.
use Rattle.std.proofs.Common.{◌≡◌, ◌≢◌, sym, ◌∙◌, subst, ℕ, Option, List, ◌∷◌, All, Contains, ◌⊎◌, inl, inr}
use Rattle.std.proofs.lemmas.List.Elements.{All-contains, All-weaker}
use Rattle.gp_clause.specs.declared.edge.Edge.{Edge}
use Rattle.gp_clause.specs.declared.kind.Kind.{Kind}
use Rattle.gp_clause.specs.declared.lit.Lit.{Lit}
use Rattle.gp_clause.specs.Closure.{Derived, Conflicts}
use Rattle.gp_clause.specs.Closure.Derived.{given, forced}
use Rattle.gp_clause.specs.Lit.{opposite, negations}
use Rattle.gp_clause.specs.LitLaws.{lits_cases, opposite_twice}
use Rattle.gp_sat.specs.declared.assigned.Assigned.{Assigned}
use Rattle.gp_sat.specs.Looking.{IsTrueLit}
use Rattle.gp_sat.specs.Standing.{IsFalse, Each, EachOther}
use Rattle.gp_certificate.specs.Step.{IsDerivedBound, LeadsToConflict}
use Rattle.gp_base.specs.ListLaws.{contains_from_map, first_or_rest}
use Rattle.std.proofs.Math.Bool.{not-not}
use Rattle.gp_sat.specs.SolverLaws.{true_not_false}

pub true_opposite : (values : ℕ → Option Assigned) (lit : Lit) → IsFalse values lit → IsTrueLit values (opposite lit)
true_opposite values lit false_is = false_is

pub false_opposite : (values : ℕ → Option Assigned) (lit : Lit) → IsTrueLit values lit → IsFalse values (opposite lit)
false_opposite values lit (a, is, same) = (a, is, same ∙ sym (not-not lit.positive))

-- a clause has a true literal, and its others are false
pub record IsHeaded (values : ℕ → Option Assigned) (clause : List Lit) : Type 0 where
  pub head : Lit
  pub within : Contains clause head
  pub holds : IsTrueLit values head
  pub others : EachOther (IsFalse values) clause head

-- the negation of each literal of the conflict is derived
abbrev pub IsReached : List Lit → List (List Lit) → List Lit → Type 0
IsReached start clauses conflict = Each (λ lit. Derived start clauses (opposite lit)) conflict

-- what is derived is derived without the conflict where it is true, and where it is false, its negation leads to the conflict
record IsTold (values : ℕ → Option Assigned) (start : List Lit) (clauses : List (List Lit)) (conflict : List Lit) (lit : Lit) : Type 0 where
  of_true : IsTrueLit values lit → Derived start clauses lit
  of_false : IsFalse values lit → Derived start clauses (opposite lit) → IsReached start clauses conflict

-- what a clause with a true literal derives
headed_told : (values : ℕ → Option Assigned) (start : List Lit) (clauses : List (List Lit)) (conflict : List Lit) (clause : List Lit) (lit : Lit) → Contains clauses clause
    → IsHeaded values clause → Contains clause lit → ((other : Lit) → Contains clause other → other ≢ lit → IsTold values start clauses conflict (opposite other))
    → IsTold values start clauses conflict lit
headed_told values start clauses conflict clause lit among headed within others = at (lits_cases lit headed.head)
  where
    at : (lit ≡ headed.head) ⊎ (lit ≢ headed.head) → IsTold values start clauses conflict lit
    at (inl same) = record {
      of_true = λ _. forced clause lit among within (λ other is apart. (others other is apart).of_true
          (true_opposite values other (headed.others other is (λ e. apart (e ∙ sym same)))));
      of_false = λ false_is _. absurd (true_not_false values headed.head headed.holds (subst (λ (l : Lit). IsFalse values l) same false_is));
    }
    at (inr differ) =
        let lit_false : IsFalse values lit = headed.others lit within differ in record {
          of_true = λ holds. absurd (true_not_false values lit holds lit_false);
          of_false = λ _ negated.
              let head_told : IsTold values start clauses conflict (opposite headed.head) = others headed.head headed.within (λ e. differ (sym e)) in
              let derived : Derived start clauses headed.head = forced clause headed.head among headed.within (λ other is apart. each other is apart negated) in
              head_told.of_false (false_opposite values headed.head headed.holds) (subst (λ (l : Lit). Derived start clauses l) (sym (opposite_twice headed.head)) derived);
        }
      where
        each : (other : Lit) → Contains clause other → other ≢ headed.head → Derived start clauses (opposite lit) → Derived start clauses (opposite other)
        each other is apart negated = elim (lits_cases other lit) [
          | inl same ↦ subst (λ (l : Lit). Derived start clauses (opposite l)) (sym same) negated
          | inr differs ↦ (others other is differs).of_true (true_opposite values other (headed.others other is apart))
        ]

-- what the conflict derives
conflict_told : (values : ℕ → Option Assigned) (start : List Lit) (clauses : List (List Lit)) (conflict : List Lit) (lit : Lit) → Each (IsFalse values) conflict
    → Contains conflict lit → ((other : Lit) → Contains conflict other → other ≢ lit → IsTold values start clauses conflict (opposite other))
    → IsTold values start clauses conflict lit
conflict_told values start clauses conflict lit all_false within others = record {
  of_true = λ holds. absurd (true_not_false values lit holds (all_false lit within));
  of_false = λ _ negated. λ other is. elim (lits_cases other lit) [
    | inl same ↦ subst (λ (l : Lit). Derived start clauses (opposite l)) (sym same) negated
    | inr differs ↦ (others other is differs).of_true (true_opposite values other (all_false other is))
  ];
}

-- what the clauses and the conflict derive from true literals
told : (values : ℕ → Option Assigned) (start : List Lit) (clauses : List (List Lit)) (conflict : List Lit) → Each (IsTrueLit values) start
    → ((clause : List Lit) → Contains clauses clause → IsHeaded values clause) → Each (IsFalse values) conflict
    → (lit : Lit) → Derived start (conflict ∷ clauses) lit → IsTold values start clauses conflict lit
told values start clauses conflict starts heads all_false lit (given l is) = record {
  of_true = λ _. given l is;
  of_false = λ false_is _. absurd (true_not_false values l (starts l is) false_is);
}
told values start clauses conflict starts heads all_false lit (forced clause l among within others) =
    let rest = λ (other : Lit) (is : Contains clause other) (apart : other ≢ l). told values start clauses conflict starts heads all_false (opposite other) (others other is apart) in
    elim (first_or_rest conflict clauses clause among) [
      | inl same ↦ conflict_told values start clauses conflict l all_false (subst (λ (c : List Lit). Contains c l) (sym same) within)
          (λ other is apart. rest other (subst (λ (c : List Lit). Contains c other) same is) apart)
      | inr one ↦ headed_told values start clauses conflict clause l one (heads clause one) within rest
    ]

-- a conflict that follows with clauses, each with one true literal, is reached by them
pub reached : (values : ℕ → Option Assigned) (start : List Lit) (clauses : List (List Lit)) (conflict : List Lit) → Each (IsTrueLit values) start
    → ((clause : List Lit) → Contains clauses clause → IsHeaded values clause) → Each (IsFalse values) conflict
    → Conflicts start (conflict ∷ clauses) → IsReached start clauses conflict
reached values start clauses conflict starts heads all_false (clause, among, negated) = at (first_or_rest conflict clauses clause among)
  where
    rest : (lit : Lit) → Contains clause lit → IsTold values start clauses conflict (opposite lit)
    rest lit is = told values start clauses conflict starts heads all_false (opposite lit) (negated lit is)

    at : (conflict ≡ clause) ⊎ Contains clauses clause → IsReached start clauses conflict
    at (inl same) = λ lit is. (rest lit (subst (λ (c : List Lit). Contains c lit) same is)).of_true (true_opposite values lit (all_false lit is))
    at (inr one) =
        let headed : IsHeaded values clause = heads clause one in
        let derived : Derived start clauses headed.head = forced clause headed.head one headed.within
        (λ other is apart. (rest other is).of_true (true_opposite values other (headed.others other is apart))) in
        (rest headed.head headed.within).of_false (false_opposite values headed.head headed.holds) (subst (λ (l : Lit). Derived start clauses l) (sym (opposite_twice headed.head)) derived)

-- what a conflict derives is derived from where it is reached
through_derived : (start : List Lit) (clauses own : List (List Lit)) (conflict : List Lit) → IsReached start clauses conflict → All (Contains clauses) own
    → (lit : Lit) → Derived (negations conflict) own lit → Derived start clauses lit
through_derived start clauses own conflict reaches among lit (given l is) =
    let one = contains_from_map opposite conflict l is in
    subst (λ (x : Lit). Derived start clauses x) one.2 (reaches one.0 one.1)
through_derived start clauses own conflict reaches among lit (forced clause l one within others) =
    forced clause l (All-contains (Contains clauses) own clause among one) within (λ other is apart. through_derived start clauses own conflict reaches among (opposite other) (others other is apart))

-- so a start is refuted that reaches a refuted conflict
pub through : (edges : List Edge) (kinds : List Kind) (start : List Lit) (clauses own : List (List Lit)) (conflict : List Lit) → IsReached start clauses conflict
    → All (Contains clauses) own → LeadsToConflict edges kinds own (negations conflict) → LeadsToConflict edges kinds clauses start
through edges kinds start clauses own conflict reaches among (inl (clause, one, negated)) =
    inl (clause, All-contains (Contains clauses) own clause among one, λ lit is. through_derived start clauses own conflict reaches among (opposite lit) (negated lit is))
through edges kinds start clauses own conflict reaches among (inr (bounds, derived, cycle)) =
    inr (bounds, All-weaker (IsDerivedBound kinds own (negations conflict)) (IsDerivedBound kinds clauses start) bound bounds derived, cycle)
  where
    bound : (edge : Edge) → IsDerivedBound kinds own (negations conflict) edge → IsDerivedBound kinds clauses start edge
    bound edge (lit, kind, from, got, is) = (lit, kind, through_derived start clauses own conflict reaches among lit from, got, is)
