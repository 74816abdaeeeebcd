-- Laws: names grow, since a symbol that is mentioned is put at the end.
use Rattle.std.proofs.Common.{◌≡◌, ap, sym, ◌∙◌, refl, inl, inr, List, [], ◌∷◌, ◌++◌, append_assoc}
use Rattle.std.specs.List.{list_any}
use Rattle.std.proofs.lemmas.Bool.{cases_Bool}
use Rattle.std.proofs.lemmas.List.{append-nil}
use Rattle.gp_constraint.specs.declared.symbol.Symbol.{Symbol}
use Rattle.gp_constraint.specs.declared.symbol.SymbolicLit.{SymbolicLit}
use Rattle.gp_constraint.specs.Numbering.{names_after, names_of, with_mention}
use Rattle.gp_constraint.specs.Symbols.{symbol_eq}

-- the second names are the first, and then others
pub record Grows (names more : List Symbol) : Type 0 where
  pub rest : List Symbol
  pub is : more ≡ names ++ rest

pub grows_none : (names : List Symbol) → Grows names names
grows_none names = record { rest = []; is = sym (append-nil names) }

pub grows_on : (a b c : List Symbol) → Grows a b → Grows b c → Grows a c
grows_on a b c one other = record {
  rest = one.rest ++ other.rest;
  is = other.is ∙ ap (λ xs. xs ++ other.rest) one.is ∙ append_assoc a one.rest other.rest;
}

pub mention_grows : (names : List Symbol) (symbol : Symbol) → Grows names (with_mention names symbol)
mention_grows names symbol =
    elim (cases_Bool (list_any (symbol_eq symbol) names)) [
      | inl old ↦ rw old (grows_none names)
      | inr new ↦ rw new (record { rest = symbol ∷ []; is = refl })
    ]

pub after_grows : (names : List Symbol) (lits : List SymbolicLit) → Grows names (names_after names lits)
after_grows names [] = grows_none names
after_grows names (lit ∷ lits) =
    grows_on names (with_mention names lit.symbol) (names_after (with_mention names lit.symbol) lits) (mention_grows names lit.symbol) (after_grows (with_mention names lit.symbol) lits)

pub of_grows : (names : List Symbol) (clauses : List (List SymbolicLit)) → Grows names (names_of names clauses)
of_grows names [] = grows_none names
of_grows names (clause ∷ clauses) =
    grows_on names (names_after names clause) (names_of (names_after names clause) clauses) (after_grows names clause) (of_grows (names_after names clause) clauses)
