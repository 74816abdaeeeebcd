-- The names of points, one after another.
use Rattle.std.proofs.Common.{ℕ, zero, suc, ◌≡◌, ◌+◌, ◌≤◌, ap, ◌∙◌, refl, List, [], ◌∷◌, ◌++◌, false, arith}
use Rattle.std.specs.Prelude.{◌==◌}
use Rattle.std.specs.List.{list_any}
use Rattle.std.proofs.lemmas.Bool.{ne_eqb}
use Rattle.gp_constraint.specs.declared.symbol.Symbol.{Symbol}
use Rattle.gp_constraint.specs.declared.symbol.Symbol.TheVariants.{Executed}
use Rattle.gp_constraint.specs.Numbering.{point_names, with_mention}
use Rattle.gp_constraint.specs.Symbols.{symbol_eq}
use Rattle.gp_constraint.proofs.Mentions.{any_parts}

fresh : (n k : ℕ) → n ≤ k → list_any (symbol_eq (Executed k)) (point_names n) ≡ false
fresh zero k below = refl
fresh (suc n) k below =
    let before : list_any (symbol_eq (Executed k)) (point_names n) ≡ false = fresh n k (omega (arith, below)) in
    let other : (k == n) ≡ false = ne_eqb k n (λ same. absurd (omega (arith, same, below))) in
    any_parts (point_names n) (Executed n ∷ []) (Executed k) before ∙ rw other refl

-- one point more
pub point_more : (p next : ℕ) (names new : List Symbol) → next ≡ p + 1 → names ≡ point_names p → new ≡ with_mention names (Executed p) → new ≡ point_names next
point_more p next names new n is mentioned =
    let up : suc p ≡ next = omega (arith, n) in
    let off : list_any (symbol_eq (Executed p)) (point_names p) ≡ false = fresh p p (omega arith) in
    let added : with_mention (point_names p) (Executed p) ≡ point_names p ++ Executed p ∷ [] = rw off refl in
    mentioned ∙ ap (λ (ns : List Symbol). with_mention ns (Executed p)) is ∙ added ∙ ap point_names up
