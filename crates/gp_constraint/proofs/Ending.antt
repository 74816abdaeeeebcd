-- A literal of a variable above all others goes to the end.
use Rattle.std.proofs.Common.{ℕ, ◌≡◌, ◌<◌, ◌≤◌, ap, refl, List, [], ◌∷◌, ◌++◌, false, arith}
use Rattle.std.specs.Prelude.{◌==◌, nat_lt}
use Rattle.std.proofs.lemmas.Bool.{and_left, le-ltb, ne_eqb}
use Rattle.gp_clause.specs.declared.lit.Lit.{Lit}
use Rattle.gp_clause.specs.Lit.{lit_eq, same_sign}
use Rattle.gp_constraint.specs.Numbering.{with_lit}
use Rattle.gp_constraint.specs.Placed.{AreBelow}

pub at_end : (above : ℕ) (lits : List Lit) (lit : Lit) → AreBelow above lits → above ≤ lit.variable → with_lit lits lit ≡ lits ++ lit ∷ []
at_end above [] lit below most = refl
at_end above (head ∷ rest) lit below most =
    let less : head.variable < lit.variable = (let h = below.0 in omega (arith, h, most)) in
    let later : nat_lt lit.variable head.variable ≡ false = le-ltb lit.variable head.variable (omega (arith, less)) in
    let other : lit_eq lit head ≡ false =
    and_left (lit.variable == head.variable) (same_sign lit.positive head.positive)
    (ne_eqb lit.variable head.variable (λ same. absurd (omega (arith, same, less)))) in
    rw (later, other) (ap (λ more. head ∷ more) (at_end above rest lit below.1 most))
