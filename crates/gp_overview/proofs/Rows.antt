-- The rows of a table, one after another.
use Rattle.std.proofs.Common.{ℕ, ◌≡◌, ◌+◌, ◌<◌, refl, ap, sym, ◌∙◌, append_assoc, List, ◌++◌, drop, flat_map, get_or, length}
use Rattle.gp_base.specs.FilterLaws.{flat_map_at}

-- one row more is put, and those that are left go on behind it
pub one_row : {X : Type 0} (row_of : X → List ℕ) (things : List X) (thing : X) (i : ℕ) (out next row whole : List ℕ)
    → i < length things → thing ≡ get_or things i thing → next ≡ out ++ row → row ≡ row_of thing
    → out ++ flat_map row_of (drop i things) ≡ whole
    → next ++ flat_map row_of (drop (i + 1) things) ≡ whole
one_row row_of things thing i out next row whole below is put told before =
    let left : List ℕ = flat_map row_of (drop (i + 1) things) in
    ap (λ (text : List ℕ). text ++ left) (put ∙ ap (λ (own : List ℕ). out ++ own) (told ∙ ap row_of is))
    ∙ append_assoc out (row_of (get_or things i thing)) left
    ∙ ap (λ (rest : List ℕ). out ++ rest) (sym (flat_map_at row_of things i (i + 1) thing refl below))
    ∙ before
