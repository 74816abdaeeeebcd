-- The highest level of literals below the present level.
use Rattle.std.proofs.Common.{sym, ◌∙◌, ap, subst, ℕ, ◌+◌, ◌<◌, List, [], ◌∷◌, get_or, length, take, inl, inr, arith}
use Rattle.std.proofs.lemmas.List.{take_more}
use Rattle.std.proofs.lemmas.List.Elements.{Contains-append_left, Contains-push, Contains-push_cases}
use Rattle.gp_clause.specs.declared.lit.Lit.{Lit}
use Rattle.gp_sat.specs.State.{SolverForm, assigned}
use Rattle.gp_sat.specs.Changes.{IsOfLevel}
use Rattle.gp_sat.specs.Learning.{IsHighestBelow}
use Rattle.gp_search.specs.Moves.{IsHigher}

-- one literal more
pub highest_more : (s : SolverForm) (lits : List Lit) (i : ℕ) (d : Lit) (level next : ℕ) → i < length lits → IsHighestBelow s (take i lits) level → IsHigher s (get_or lits i d) level next → IsHighestBelow s (take (i + 1) lits) next
highest_more s lits i d level next within was higher = subst (λ (ls : List Lit). IsHighestBelow s ls next) (sym (take_more lits i d within)) (record {
  highest = λ lit a among is low. elim (Contains-push_cases (take i lits) (get_or lits i d) lit among) [
    | inl front ↦ omega (arith, was.highest lit a front is low, higher.least)
    | inr same ↦ higher.own a (ap (λ (l : Lit). assigned s l.variable) same ∙ is) low
  ];
  reached = elim higher.reached [
    | inl same ↦ elim was.reached [
      | inl none ↦ inl (same ∙ none)
      | inr one ↦ inr (one.0, Contains-append_left (take i lits) (get_or lits i d ∷ []) one.0 one.1, subst (λ (n : ℕ). IsOfLevel s n one.0) (sym same) one.2, omega (arith, one.3, same))
    ]
    | inr one ↦ inr (get_or lits i d, Contains-push (take i lits) (get_or lits i d), one.0, one.1)
  ];
})
