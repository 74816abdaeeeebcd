-- What a loop over variables has shown so far, and that an answer meets a problem, and solves its window.
use Rattle.std.proofs.Common.{◌≡◌, sym, subst, ℕ, ◌≤◌, ◌+◌, inl, inr, Bool, List, [], append-nil, length, get_or, arith}
use Rattle.std.specs.Prelude.{All, Some, slice_get}
use Rattle.std.proofs.lemmas.Bool.{cases_eq}
use Rattle.std.proofs.lemmas.List.Elements.{All-nil}
use Rattle.std.proofs.lemmas.Option.{get_or_from_slice_get, slice_get_within}
use Rattle.gp_clause.specs.declared.kind.Kind.{Kind}
use Rattle.gp_clause.specs.declared.problem.Problem.{Problem}
use Rattle.gp_clause.specs.declared.valuation.Valuation.{Valuation}
use Rattle.gp_clause.specs.Clause.{HoldsAll}
use Rattle.gp_clause.specs.Edge.{Keeps}
use Rattle.gp_clause.specs.Kind.{KeepsBound, bound_of}
use Rattle.gp_clause.specs.Valuation.{Meets, place_of, truth_of}
use Rattle.gp_constraint.specs.Base.{base_of}
use Rattle.gp_window.specs.WindowForm.{WindowForm}
use Rattle.gp_witness.specs.Answered.{SolvesWindow}
use Rattle.gp_cases.specs.Bounds.{KeepsBelow}

pub none : (valuation : Valuation) (kinds : List Kind) → KeepsBelow valuation kinds 0
none valuation kinds = record { kept = λ variable kind under is. absurd (omega (arith, under)) }

pub one_more : (valuation : Valuation) (kinds : List Kind) (i : ℕ) (d : Kind) (value : Bool) → value ≡ truth_of valuation i
    → KeepsBound (place_of valuation) (bound_of (get_or kinds i d) value) → KeepsBelow valuation kinds i → KeepsBelow valuation kinds (i + 1)
one_more valuation kinds i d value same here before = record {
  kept = λ variable kind under is. elim (cases_eq variable i) [
    | inl at ↦ subst (λ (v : ℕ). KeepsBound (place_of valuation) (bound_of kind (truth_of valuation v))) (sym at)
        (subst (λ (k : Kind). KeepsBound (place_of valuation) (bound_of k (truth_of valuation i)))
        (get_or_from_slice_get kinds i kind d (subst (λ (v : ℕ). slice_get kinds v ≡ Some kind) at is))
        (subst (λ (b : Bool). KeepsBound (place_of valuation) (bound_of (get_or kinds i d) b)) same here))
    | inr other ↦ before.kept variable kind (omega (arith, under, other)) is
  ];
}

pub all_below : (valuation : Valuation) (kinds : List Kind) (i : ℕ) → i ≡ length kinds → KeepsBelow valuation kinds i → KeepsBelow valuation kinds (length kinds)
all_below valuation kinds i end below = subst (λ (n : ℕ). KeepsBelow valuation kinds n) end below

-- what meets a problem, where nothing is asked
pub meets : (problem : Problem) (valuation : Valuation) → length problem.kinds ≤ length valuation.truth → length valuation.places ≡ problem.points
    → All (Keeps (place_of valuation)) problem.edges → HoldsAll (truth_of valuation) problem.clauses → KeepsBelow valuation problem.kinds (length problem.kinds)
    → Meets problem (record { locals = []; assumed = [] }) valuation
meets problem valuation truth places edges clauses bounds = record {
  truth = omega (arith, truth);
  places = places;
  edges = edges;
  clauses = clauses;
  assumed = All-nil _;
  bounds = λ variable kind is.
      let at : slice_get problem.kinds variable ≡ Some kind = subst (λ (kinds : List Kind). slice_get kinds variable ≡ Some kind) (append-nil problem.kinds) is in
      bounds.kept variable kind (slice_get_within problem.kinds variable kind at) at;
}

-- what meets the problem of a window solves it
pub answers_window : (window : WindowForm) (problem : Problem) (valuation : Valuation) → problem ≡ base_of window
    → Meets problem (record { locals = []; assumed = [] }) valuation → SolvesWindow window valuation
answers_window window problem valuation is meets =
    subst (λ (p : Problem). Meets p (record { locals = []; assumed = [] }) valuation) is meets
