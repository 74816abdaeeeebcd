-- Bytes with a second cut in them.
use Rattle.std.proofs.Common.{◌≡◌, refl, ℕ, ◌<◌, List, [], ◌∷◌, length, arith}
use Rattle.std.specs.Prelude.{None, ◌==◌}
use Rattle.std.proofs.lemmas.List.Splits.{length-slice_split}
use Rattle.gp_property.specs.Atom.{cut_at, halves}

-- three parts or more are no two halves
more_parts : (first second : List ℕ) (parts : List (List ℕ)) → 0 < length parts → halves (first ∷ second ∷ parts) ≡ None
more_parts first second [] some = absurd (omega arith)
more_parts first second (third ∷ parts) some = refl

-- a second cut leaves no two halves
pub second_cut : (at : ℕ) (first second rest : List ℕ) → halves (first ∷ second ∷ cut_at at rest) ≡ None
second_cut at first second rest =
    more_parts first second (cut_at at rest) (omega (arith, length-slice_split (λ b. b == at) rest))
