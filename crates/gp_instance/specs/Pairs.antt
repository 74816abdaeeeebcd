-- Tests of each two elements of a list.
use Rattle.std.specs.Prelude.{Bool, true, ◌&&◌, List, [], ◌∷◌}
use Rattle.std.specs.List.{list_all}

-- each element passes the test with each later one
abbrev pub all_pairs : {A : Type 0} → (A → A → Bool) → List A → Bool
all_pairs test [] = true
all_pairs test (first ∷ rest) = list_all (test first) rest && all_pairs test rest
