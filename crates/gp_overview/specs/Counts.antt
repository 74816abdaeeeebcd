-- How often a report has which answer, by property.
use Rattle.std.specs.Prelude.{ℕ, Bool, true, false, List, count_by, filter, flat_map}
use Rattle.std.specs.Str.{bytes_eq}
use Rattle.gp_report.specs.declared.record.PropertyBodyOf.TheVariants.{TooMany, Entries}
use Rattle.gp_report.specs.declared.record.WindowBodyOf.TheVariants.{TooLarge, Answers}
use Rattle.gp_report.specs.Entries.{count_of, entries_among, is_found, is_impossible, is_undecided, properties_in}
use Rattle.gp_report.specs.Records.{PropertyBody, PropertyRecord, WindowBody, WindowRecord}
use Rattle.gp_overview.specs.declared.counts.Counts.{Counts}

-- what a report tells of the properties in its windows, in order
abbrev pub records_of : List WindowRecord → List PropertyRecord
records_of windows = flat_map (λ (window : WindowRecord). properties_in window.body) windows

-- whether a property goes by this name
abbrev pub has_name : List ℕ → PropertyRecord → Bool
has_name name told = bytes_eq told.name name

-- what it tells of the property of this name
abbrev pub records_named : List ℕ → List WindowRecord → List PropertyRecord
records_named name windows = filter (has_name name) (records_of windows)

-- whether a property has too many instances in its window
abbrev pub is_too_many : PropertyBody → Bool
is_too_many TooMany = true
is_too_many (Entries entries) = false

abbrev pub has_too_many : PropertyRecord → Bool
has_too_many told = is_too_many told.body

-- whether a window is too large
abbrev pub is_large : WindowBody → Bool
is_large (TooLarge events clauses) = true
is_large (Answers properties) = false

abbrev pub is_too_large : WindowRecord → Bool
is_too_large window = is_large window.body

-- the counts of these records, and how many of these windows are too large
abbrev pub counts_among : List PropertyRecord → List WindowRecord → Counts
counts_among records windows = record {
  found = count_of is_found (entries_among records);
  impossible = count_of is_impossible (entries_among records);
  undecided = count_of is_undecided (entries_among records);
  too_many = count_by has_too_many records;
  too_large = count_by is_too_large windows;
}

-- the counts of the property of this name
abbrev pub counts_of : List WindowRecord → List ℕ → Counts
counts_of windows name = counts_among (records_named name windows) windows

-- the counts of all that is told
abbrev pub total_of : List WindowRecord → Counts
total_of windows = counts_among (records_of windows) windows
