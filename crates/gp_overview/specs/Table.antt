-- The table of properties as text: a line for each, with its counts in columns, and one line for all.
use Rattle.std.specs.Prelude.{ℕ, ◌-◌, List, [], ◌∷◌, ◌++◌, codes, decimal, flat_map, length, map, replicate}
use Rattle.gp_property.specs.PropertyForm.{PropertyForm}
use Rattle.gp_report.specs.Records.{WindowRecord}
use Rattle.gp_overview.specs.declared.counts.Counts.{Counts}
use Rattle.gp_overview.specs.Counts.{counts_of, total_of}

-- the heads of the columns of numbers
abbrev pub heads : List (List ℕ)
heads = codes "found" ∷ codes "impossible" ∷ codes "undecided" ∷ codes "too many" ∷ codes "too large" ∷ []

-- the numbers of a row
abbrev pub numbers_of : Counts → List ℕ
numbers_of counts = counts.found ∷ counts.impossible ∷ counts.undecided ∷ counts.too_many ∷ counts.too_large ∷ []

-- so many spaces
abbrev pub spaces : ℕ → List ℕ
spaces count = replicate count 32

-- the first cell of a row: a name, and spaces up to the width of the longest name
abbrev pub name_cell : List ℕ → List ℕ
name_cell name = name ++ spaces (32 - length name)

-- another cell of it, its words at the right
abbrev pub cell : List ℕ → List ℕ
cell words = spaces (11 - length words) ++ words

-- a line of a name and cells
abbrev pub row_line : List ℕ → List (List ℕ) → List ℕ
row_line name cells = name_cell name ++ flat_map cell cells ++ codes "\n"

-- the line of the heads
abbrev pub head_line : List ℕ
head_line = row_line (codes "property") heads

-- the line of a name with its counts
abbrev pub counts_line : List ℕ → Counts → List ℕ
counts_line name counts = row_line name (map decimal (numbers_of counts))

-- the line of a property of a report of these windows
abbrev pub property_line : List WindowRecord → PropertyForm → List ℕ
property_line windows property = counts_line property.name (counts_of windows property.name)

-- the table of these properties
abbrev pub table_text : List PropertyForm → List WindowRecord → List ℕ
table_text properties windows =
    head_line ++ flat_map (property_line windows) properties ++ counts_line (codes "all") (total_of windows)
