-- Nothing of the verdict and of the table is read as markup.
use Rattle.std.proofs.Common.{ℕ, List, ◌∷◌, ◌++◌, codes, decimal, flat_map, map, refl}
use Rattle.gp_checker.specs.declared.failure.Checked.{Checked}
use Rattle.gp_drawing.specs.Markup.{HasOwnMarkup}
use Rattle.gp_drawing.specs.MarkupLaws.{markup_append, markup_before, markup_between, markup_flat_map, markup_words, markup_after}
use Rattle.gp_property.specs.PropertyForm.{PropertyForm}
use Rattle.gp_report.specs.Records.{WindowRecord}
use Rattle.gp_text.specs.Spelling.{joined}
use Rattle.gp_overview.specs.declared.counts.Counts.{Counts}
use Rattle.gp_overview.specs.Counts.{counts_of, total_of}
use Rattle.gp_overview.specs.Laws.{OverviewsHaveOwnMarkup}
use Rattle.gp_overview.specs.Page.{body_cell, counts_row, head_cell, head_row, property_row, table_part, verdict_part}
use Rattle.gp_overview.specs.Table.{heads, numbers_of}
use Rattle.gp_overview.specs.Verdict.{verdict_words}

verdict_own : (windows : List WindowRecord) (checked : Checked) → HasOwnMarkup (verdict_part windows checked)
unfolding verdict_part
verdict_own windows checked = markup_words (codes "<p>") (joined (verdict_words windows checked)) (codes "</p>\n") refl refl

head_cell_own : (words : List ℕ) → HasOwnMarkup (head_cell words)
unfolding head_cell
head_cell_own words = markup_words (codes "<th>") words (codes "</th>") refl refl

body_cell_own : (words : List ℕ) → HasOwnMarkup (body_cell words)
unfolding body_cell
body_cell_own words = markup_words (codes "<td>") words (codes "</td>") refl refl

-- a row of cells
row_own : (cell : List ℕ → List ℕ) (cells : List (List ℕ)) → ((words : List ℕ) → HasOwnMarkup (cell words)) → HasOwnMarkup (codes "<tr>" ++ flat_map cell cells ++ codes "</tr>\n")
row_own cell cells own = markup_between (codes "<tr>") (flat_map cell cells) (codes "</tr>\n") refl (markup_flat_map cell cells own) refl

head_row_own : HasOwnMarkup head_row
unfolding head_row
head_row_own = row_own head_cell (codes "property" ∷ heads) head_cell_own

counts_row_own : (name : List ℕ) (counts : Counts) → HasOwnMarkup (counts_row name counts)
unfolding counts_row
counts_row_own name counts = row_own body_cell (name ∷ map decimal (numbers_of counts)) body_cell_own

table_own : (properties : List PropertyForm) (windows : List WindowRecord) → HasOwnMarkup (table_part properties windows)
unfolding table_part
table_own properties windows =
    let rows : List ℕ = flat_map (property_row windows) properties in
    let all : List ℕ = counts_row (codes "all") (total_of windows) in
    markup_before (codes "<table>\n" ++ head_row ++ rows ++ all) (codes "</table>\n")
    (markup_append (codes "<table>\n" ++ head_row ++ rows) all
    (markup_append (codes "<table>\n" ++ head_row) rows
    (markup_after (codes "<table>\n") head_row refl head_row_own)
    (markup_flat_map (property_row windows) properties (λ (property : PropertyForm). counts_row_own property.name (counts_of windows property.name))))
    (counts_row_own (codes "all") (total_of windows))) refl

pub overviews_own : OverviewsHaveOwnMarkup
overviews_own = record { verdict = verdict_own; table = table_own }
