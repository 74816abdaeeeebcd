use Rattle.std.proofs.Common.{◌≡◌, ℕ, ◌<◌, ℤ, Bool, List, ◌++◌, length, get_or, All, sym, ◌∙◌}
use Rattle.std.proofs.lemmas.List.Elements.{All-contains}
use Rattle.gp_clause.specs.declared.edge.Edge.{Edge}
use Rattle.gp_clause.specs.declared.kind.Kind.{Kind}
use Rattle.gp_clause.specs.declared.lit.Lit.{Lit}
use Rattle.gp_clause.specs.Clause.{HoldsClause, HoldsAll, NamesBelow}
use Rattle.gp_clause.specs.Valuation.{IsValuation}
use Rattle.gp_clause.specs.Follows.{MembersFollow, FollowsThrough, FollowsFromMore, LocalsChangeNothing}
use Rattle.gp_clause.proofs.Extension.{extend, front_get}

pub members : MembersFollow
members points edges kinds clauses clause inside = λ truth place valuation holds. All-contains (HoldsClause truth) clauses clause holds inside

pub through : FollowsThrough
through points edges kinds clauses lemmas clause each follows = λ truth place valuation holds.
    follows truth place valuation (λ k d within. each k d within truth place valuation holds)

pub from_more : FollowsFromMore
from_more points edges kinds clauses part clause inside follows =
    through points edges kinds clauses part clause (λ k d within. members points edges kinds clauses (get_or part k d) (inside k d within)) follows

-- truth values that agree on the variables of a clause make it true alike
pub holds_alike : (count : ℕ) (truth other : ℕ → Bool) → ((variable : ℕ) → variable < count → other variable ≡ truth variable)
    → (clause : List Lit) → NamesBelow count clause → HoldsClause truth clause → HoldsClause other clause
holds_alike count truth other agree clause below (k, lit, within, is, holds) =
    let first : lit.variable < count = rw is at (below k lit within) in
    (k, lit, within, is, agree lit.variable first ∙ holds)

pub all_hold_alike : (count : ℕ) (truth other : ℕ → Bool) → ((variable : ℕ) → variable < count → other variable ≡ truth variable)
    → (clauses : List (List Lit)) → All (NamesBelow count) clauses → HoldsAll truth clauses → HoldsAll other clauses
all_hold_alike count truth other agree clauses below holds = λ k d within. holds_alike count truth other agree (get_or clauses k d) (below k d within) (holds k d within)

-- a valuation with locals is one without them
pub restricted : (points : ℕ) (edges : List Edge) (kinds locals : List Kind) (truth : ℕ → Bool) (place : ℕ → ℤ) → IsValuation points edges (kinds ++ locals) truth place → IsValuation points edges kinds truth place
restricted points edges kinds locals truth place valuation = record {
  apart = valuation.apart;
  keeps = valuation.keeps;
  fits = λ variable kind is. valuation.fits variable kind (front_get kinds locals variable kind is);
}

pub locals_nothing : LocalsChangeNothing
locals_nothing = record {
  added = λ points edges kinds locals clauses clause follows. λ truth place valuation holds.
      follows truth place (restricted points edges kinds locals truth place valuation) holds;
  left_out = λ points edges kinds locals clauses clause below names follows. λ truth place valuation holds.
      let more = extend points edges kinds locals truth place valuation in
      holds_alike (length kinds) more.0 truth (λ variable first. sym (more.1 variable first)) clause names
      (follows more.0 place more.2 (all_hold_alike (length kinds) truth more.0 more.1 clauses below holds));
}
