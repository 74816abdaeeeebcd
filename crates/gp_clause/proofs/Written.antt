use Rattle.std.proofs.Common.{◌≡◌, ℕ, ◌+◌, ◌<◌, ℤ, pos, Bool, true, false, List, ◌++◌, length, get_or, map, All, ◌∙◌, arith}
use Rattle.std.specs.List.{range_with_len}
use Rattle.std.proofs.lemmas.List.{length-append}
use Rattle.std.proofs.lemmas.List.Elements.{All-append}
use Rattle.std.proofs.lemmas.List.FromFn.{length-map-range_with_len, get_or-map-range_with_len}
use Rattle.std.proofs.lemmas.Option.{slice_get_within, get_or_from_slice_get}
use Rattle.gp_clause.specs.declared.edge.Edge.{Edge}
use Rattle.gp_clause.specs.declared.kind.Kind.{Kind}
use Rattle.gp_clause.specs.declared.kind.Kind.TheVariants.{Free, Order, Span}
use Rattle.gp_clause.specs.declared.problem.Problem.{Problem}
use Rattle.gp_clause.specs.declared.problem.Query.{Query}
use Rattle.gp_clause.specs.declared.valuation.Valuation.{Valuation}
use Rattle.gp_clause.specs.Lit.{HoldsLit}
use Rattle.gp_clause.specs.Clause.{HoldsAll}
use Rattle.gp_clause.specs.Edge.{Keeps}
use Rattle.gp_clause.specs.Kind.{bound_of, KeepsBound}
use Rattle.gp_clause.specs.Problem.{IsValidKind, IsValidProblem, IsValidQuery}
use Rattle.gp_clause.specs.Valuation.{IsValuation, truth_of, place_of, WritesDown, Meets, ValuationsMeet}
use Rattle.gp_clause.proofs.Bounds.{bounds_mean}
use Rattle.gp_clause.proofs.Following.{all_hold_alike}

write_down : (variables points : ℕ) (truth : ℕ → Bool) (place : ℕ → ℤ) → (valuation : Valuation) × WritesDown variables points truth place valuation
write_down variables points truth place = (
  record { truth = map truth (range_with_len 0 variables); places = map place (range_with_len 0 points) },
  record {
    truth_values = length-map-range_with_len truth 0 variables;
    places = length-map-range_with_len place 0 points;
    same_truth = λ variable first. get_or-map-range_with_len truth 0 variables variable variable false first (omega arith);
    same_place = λ point first. get_or-map-range_with_len place 0 points point point (pos 0) first (omega arith);
  },
)

-- places that agree on the points of an edge keep it alike
pub keeps_alike : (points : ℕ) (place other : ℕ → ℤ) → ((point : ℕ) → point < points → other point ≡ place point) → (edge : Edge) → edge.a < points → edge.b < points → Keeps place edge → Keeps other edge
keeps_alike points place other agree edge a b keeps = rw (agree edge.a a, agree edge.b b) keeps

-- and so with the points of a bound
pub bound_alike : (points : ℕ) (place other : ℕ → ℤ) → ((point : ℕ) → point < points → other point ≡ place point) → (kind : Kind) (value : Bool) → IsValidKind points kind
    → KeepsBound place (bound_of kind value) → KeepsBound other (bound_of kind value)
bound_alike points place other agree Free value valid keeps = tt
bound_alike points place other agree (Order a b) true valid keeps = rw (agree a valid.0, agree b valid.1) keeps
bound_alike points place other agree (Order a b) false valid keeps = rw (agree a valid.0, agree b valid.1) keeps
bound_alike points place other agree (Span a b c) true valid keeps = rw (agree a valid.0, agree b valid.1) keeps
bound_alike points place other agree (Span a b c) false valid keeps = rw (agree a valid.0, agree b valid.1) keeps

meets_written : (problem : Problem) (query : Query) (truth : ℕ → Bool) (place : ℕ → ℤ) (valuation : Valuation) → IsValidProblem problem → IsValidQuery problem query
    → IsValuation problem.points problem.edges (problem.kinds ++ query.locals) truth place → HoldsAll truth problem.clauses → All (HoldsLit truth) query.assumed
    → WritesDown (length problem.kinds + length query.locals) problem.points truth place valuation → Meets problem query valuation
meets_written problem query truth place valuation good asked is holds assumed written =
    let kinds : List Kind = problem.kinds ++ query.locals in
    let all_valid : All (IsValidKind problem.points) kinds = All-append (IsValidKind problem.points) problem.kinds query.locals good.kinds asked.locals in
    record {
      truth = omega (arith, written.truth_values);
      places = written.places;
      edges = λ k d within. keeps_alike problem.points place (place_of valuation) written.same_place (get_or problem.edges k d) (good.edges k d within).a (good.edges k d within).b (is.keeps k d within);
      clauses = all_hold_alike (length problem.kinds) truth (truth_of valuation) (λ variable first. written.same_truth variable (omega arith)) problem.clauses good.clauses holds;
      assumed = λ k d within. written.same_truth (get_or query.assumed k d).variable (asked.assumed k d within) ∙ assumed k d within;
      bounds = λ variable kind at.
          let within : variable < length problem.kinds + length query.locals = omega (arith, slice_get_within kinds variable kind at, length-append problem.kinds query.locals) in
          let valid : IsValidKind problem.points kind = rw (get_or_from_slice_get kinds variable kind kind at) at (all_valid variable kind (slice_get_within kinds variable kind at)) in
          let kept : KeepsBound place (bound_of kind (truth variable)) = bounds_mean.kept problem.points problem.edges kinds truth place is variable kind at valid in
          rw (written.same_truth variable within) (bound_alike problem.points place (place_of valuation) written.same_place kind (truth variable) valid kept);
    }

pub valuations_meet : ValuationsMeet
valuations_meet = record { written = write_down; meets = meets_written }
