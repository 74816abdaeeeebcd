-- What passes is true wherever the clauses are that it passes with.
use Rattle.std.proofs.Common.{◌≡◌, ℕ, ℤ, Bool, List, ◌++◌, Some, All, ◌⊎◌, inl, inr, subst}
use Rattle.std.specs.List.{slice_get}
use Rattle.std.proofs.lemmas.List.Elements.{All-append, All-map, All-weaker}
use Rattle.gp_clause.specs.declared.edge.Edge.{Edge}
use Rattle.gp_clause.specs.declared.kind.Kind.{Kind}
use Rattle.gp_clause.specs.declared.lit.Lit.{Lit}
use Rattle.gp_clause.specs.Clause.{HoldsClause, HoldsAll, TrueOrFalse}
use Rattle.gp_clause.specs.Closure.{DerivedMeans}
use Rattle.gp_clause.specs.Edge.{Keeps}
use Rattle.gp_clause.specs.Kind.{bound_of, KeepsBound}
use Rattle.gp_clause.specs.Lit.{HoldsLit, opposite, negations}
use Rattle.gp_clause.specs.Problem.{IsValidKind}
use Rattle.gp_clause.specs.Valuation.{IsValuation, BoundsMean}
use Rattle.gp_clause.specs.Walk.{KeepingLeavesNoCycle}
use Rattle.gp_certificate.specs.Step.{IsDerivedBound, LeadsToConflict, Passes, PassingFollows}
use Rattle.gp_base.specs.ListLaws.{got_all}

-- what is known of clauses, bounds and walks
pub record Laws : Type 0 where
  pub derived : DerivedMeans
  pub bounds : BoundsMean
  pub cycles : KeepingLeavesNoCycle
  pub cases : TrueOrFalse

-- places and truth values at which the fixed edges and the bounds of the variables are kept
pub record IsModel (edges : List Edge) (kinds : List Kind) (truth : ℕ → Bool) (place : ℕ → ℤ) : Type 0 where
  pub keeps : All (Keeps place) edges
  pub bounds : (variable : ℕ) (kind : Kind) → slice_get kinds variable ≡ Some kind → KeepsBound place (bound_of kind (truth variable))

pub model_from_valuation : Laws → (points : ℕ) (edges : List Edge) (kinds : List Kind) (truth : ℕ → Bool) (place : ℕ → ℤ) → All (IsValidKind points) kinds
    → IsValuation points edges kinds truth place → IsModel edges kinds truth place
model_from_valuation laws points edges kinds truth place valid valuation = record {
  keeps = valuation.keeps;
  bounds = λ variable kind is. laws.bounds.kept points edges kinds truth place valuation variable kind is (got_all (IsValidKind points) kinds variable kind valid is);
}

-- the bound of a literal that is derived from what is true is kept
bound_kept : Laws → (edges : List Edge) (kinds : List Kind) (clauses : List (List Lit)) (start : List Lit) (truth : ℕ → Bool) (place : ℕ → ℤ) → IsModel edges kinds truth place
    → HoldsAll truth clauses → All (HoldsLit truth) start → (edge : Edge) → IsDerivedBound kinds clauses start edge → Keeps place edge
bound_kept laws edges kinds clauses start truth place model holds starts edge (lit, kind, derived, at, is) =
    let true_lit : truth lit.variable ≡ lit.positive = laws.derived.true_too start clauses truth starts holds lit derived in
    let by_truth : KeepsBound place (bound_of kind (truth lit.variable)) = model.bounds lit.variable kind at in
    let P : Bool → Type 0 = λ value. KeepsBound place (bound_of kind value) in
    subst (KeepsBound place) is (subst P true_lit by_truth)

-- clauses that are true refute no start that is
refuted_false : Laws → (edges : List Edge) (kinds : List Kind) (clauses : List (List Lit)) (start : List Lit) (truth : ℕ → Bool) (place : ℕ → ℤ) → IsModel edges kinds truth place
    → HoldsAll truth clauses → All (HoldsLit truth) start → LeadsToConflict edges kinds clauses start → ⊥
refuted_false laws edges kinds clauses start truth place model holds starts (inl conflict) = laws.derived.no_conflict start clauses truth starts holds conflict
refuted_false laws edges kinds clauses start truth place model holds starts (inr (bounds, derived, cycle)) =
    let kept : All (Keeps place) bounds = All-weaker (IsDerivedBound kinds clauses start) (Keeps place) (bound_kept laws edges kinds clauses start truth place model holds starts) bounds derived in
    laws.cycles place (edges ++ bounds) (All-append (Keeps place) edges bounds model.keeps kept) cycle

-- a clause that passes is true where the clauses are
pub passing_true : Laws → (edges : List Edge) (kinds : List Kind) (clauses : List (List Lit)) (clause : List Lit) (truth : ℕ → Bool) (place : ℕ → ℤ) → IsModel edges kinds truth place
    → HoldsAll truth clauses → Passes edges kinds clauses clause → HoldsClause truth clause
passing_true laws edges kinds clauses clause truth place model holds passes = at (laws.cases truth clause)
  where
    at : HoldsClause truth clause ⊎ All (λ lit. HoldsLit truth (opposite lit)) clause → HoldsClause truth clause
    at (inl told) = told
    at (inr negated) = absurd (refuted_false laws edges kinds clauses (negations clause) truth place model holds (All-map (HoldsLit truth) opposite clause negated) passes.refuted)

pub passing : Laws → PassingFollows
passing laws points edges kinds clauses clause valid passes = λ truth place valuation holds.
    passing_true laws edges kinds clauses clause truth place (model_from_valuation laws points edges kinds truth place valid valuation) holds passes
