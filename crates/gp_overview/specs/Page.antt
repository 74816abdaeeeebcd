-- The verdict and the table as parts of a page.
use Rattle.std.specs.Prelude.{ℕ, List, ◌∷◌, ◌++◌, codes, decimal, flat_map, map}
use Rattle.gp_checker.specs.declared.failure.Checked.{Checked}
use Rattle.gp_drawing.specs.Escaped.{escaped}
use Rattle.gp_property.specs.PropertyForm.{PropertyForm}
use Rattle.gp_report.specs.Records.{WindowRecord}
use Rattle.gp_text.specs.Spelling.{joined}
use Rattle.gp_overview.specs.declared.counts.Counts.{Counts}
use Rattle.gp_overview.specs.Counts.{counts_of, total_of}
use Rattle.gp_overview.specs.Table.{heads, numbers_of}
use Rattle.gp_overview.specs.Verdict.{verdict_words}

-- the verdict on a report of these windows
unfoldable pub verdict_part : List WindowRecord → Checked → List ℕ
verdict_part windows checked = codes "<p>" ++ escaped (joined (verdict_words windows checked)) ++ codes "</p>\n"

-- a cell of the heads, and one of numbers or of a name
unfoldable pub head_cell : List ℕ → List ℕ
head_cell words = codes "<th>" ++ escaped words ++ codes "</th>"

unfoldable pub body_cell : List ℕ → List ℕ
body_cell words = codes "<td>" ++ escaped words ++ codes "</td>"

-- the row of the heads
unfoldable pub head_row : List ℕ
head_row = codes "<tr>" ++ flat_map head_cell (codes "property" ∷ heads) ++ codes "</tr>\n"

-- the row of a name with its counts
unfoldable pub counts_row : List ℕ → Counts → List ℕ
counts_row name counts = codes "<tr>" ++ flat_map body_cell (name ∷ map decimal (numbers_of counts)) ++ codes "</tr>\n"

-- the row of a property of a report of these windows
abbrev pub property_row : List WindowRecord → PropertyForm → List ℕ
property_row windows property = counts_row property.name (counts_of windows property.name)

-- the table of these properties
unfoldable pub table_part : List PropertyForm → List WindowRecord → List ℕ
table_part properties windows =
    codes "<table>\n" ++ head_row ++ flat_map (property_row windows) properties
    ++ counts_row (codes "all") (total_of windows) ++ codes "</table>\n"
