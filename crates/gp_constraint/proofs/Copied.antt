-- Names that are mentioned one after another are a copy of themselves, since none of them comes twice.
use Rattle.std.proofs.Common.{ℕ, zero, suc, ◌≡◌, ap, sym, ◌∙◌, subst, refl, inl, inr, List, [], ◌∷◌, ◌++◌, length, arith}
use Rattle.std.specs.List.{list_any}
use Rattle.std.proofs.lemmas.Bool.{cases_Bool}
use Rattle.gp_window.specs.WindowForm.{WindowForm}
use Rattle.gp_constraint.specs.declared.symbol.Symbol.{Symbol}
use Rattle.gp_constraint.specs.declared.symbol.Symbol.TheVariants.{Executed}
use Rattle.gp_constraint.specs.declared.symbol.SymbolicLit.{SymbolicLit}
use Rattle.gp_constraint.specs.Base.{clauses_of, first_names, names_in}
use Rattle.gp_constraint.specs.Numbering.{names_after, names_of, point_names, with_mention, with_mentions}
use Rattle.gp_constraint.specs.Points.{points_of}
use Rattle.gp_constraint.specs.Symbols.{symbol_eq}
use Rattle.gp_constraint.proofs.Mentions.{mentions_append}
use Rattle.gp_constraint.proofs.PointNames.{point_more}

abbrev IsCopied : List Symbol → Type 0
IsCopied names = with_mentions [] names ≡ names

mention_copied : (names : List Symbol) (symbol : Symbol) → IsCopied names → IsCopied (with_mention names symbol)
mention_copied names symbol is =
    elim (cases_Bool (list_any (symbol_eq symbol) names)) [
      | inl old ↦ let same : with_mention names symbol ≡ names = rw old refl in subst IsCopied (sym same) is
      | inr new ↦
          let added : with_mention names symbol ≡ names ++ symbol ∷ [] = rw new refl in
          subst IsCopied (sym added) (mentions_append [] names (symbol ∷ []) ∙ ap (λ ns. with_mention ns symbol) is ∙ added)
    ]

after_copied : (names : List Symbol) (lits : List SymbolicLit) → IsCopied names → IsCopied (names_after names lits)
after_copied names [] is = is
after_copied names (lit ∷ lits) is = after_copied (with_mention names lit.symbol) lits (mention_copied names lit.symbol is)

of_copied : (names : List Symbol) (clauses : List (List SymbolicLit)) → IsCopied names → IsCopied (names_of names clauses)
of_copied names [] is = is
of_copied names (clause ∷ clauses) is = of_copied (names_after names clause) clauses (after_copied names clause is)

points_copied : (n : ℕ) → IsCopied (point_names n)
points_copied zero = refl
points_copied (suc n) =
    subst IsCopied (point_more n (suc n) (point_names n) (with_mention (point_names n) (Executed n)) (omega arith) refl refl)
    (mention_copied (point_names n) (Executed n) (points_copied n))

pub names_copied : (window : WindowForm) → with_mentions [] (names_in window) ≡ names_in window
names_copied window = of_copied (first_names window) (clauses_of window) (points_copied (length (points_of window)))
