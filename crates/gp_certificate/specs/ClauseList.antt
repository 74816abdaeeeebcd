-- Lists of literals that lie one behind another in one list.
use Rattle.std.specs.Prelude.{ℕ, ◌≡◌, ◌+◌, ◌-◌, List, [], ◌∷◌, length, take, drop}
use Rattle.std.specs.List.{flat_map}
use Rattle.gp_clause.specs.declared.lit.Lit.{Lit}

-- all literals of some lists, in order
abbrev pub joined : List (List Lit) → List Lit
joined lists = flat_map (λ lits. lits) lists

-- where each of some lists ends, when the first begins at a place
abbrev pub ends_from : ℕ → List (List Lit) → List ℕ
ends_from from [] = []
ends_from from (lits ∷ lists) = (from + length lits) ∷ ends_from (from + length lits) lists

-- the lists that end at some places, of which the first begins at a place
abbrev pub pieces : ℕ → List ℕ → List Lit → List (List Lit)
pieces from [] lits = []
pieces from (end ∷ ends) lits = take (end - from) lits ∷ pieces end ends (drop (end - from) lits)

-- some lists, and for how many literals and lists in all there is room
pub record ListForm : Type 0 where
  pub lists : List (List Lit)
  pub room : ℕ
  pub places : ℕ

-- literals and ends are those of the lists that they stand for
pub record IsSplit (all : List Lit) (places : List ℕ) : Type 0 where
  pub lits : all ≡ joined (pieces 0 places all)
  pub ends : places ≡ ends_from 0 (pieces 0 places all)
