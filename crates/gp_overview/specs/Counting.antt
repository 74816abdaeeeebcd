-- Counts that grow by what is told.
use Rattle.std.specs.Prelude.{◌+◌, List, count_by}
use Rattle.gp_report.specs.Entries.{count_of, entries_among, is_found, is_impossible, is_undecided}
use Rattle.gp_report.specs.Records.{Entry, PropertyRecord, WindowRecord}
use Rattle.gp_overview.specs.declared.counts.Counts.{Counts}
use Rattle.gp_overview.specs.Counts.{has_too_many, is_too_large}

-- nothing is counted
abbrev pub no_counts : Counts
no_counts = record { found = 0; impossible = 0; undecided = 0; too_many = 0; too_large = 0 }

-- counts with these entries too
abbrev pub with_entries : Counts → List Entry → Counts
with_entries counts entries = record counts {
  found = counts.found + count_of is_found entries;
  impossible = counts.impossible + count_of is_impossible entries;
  undecided = counts.undecided + count_of is_undecided entries;
}

-- counts with these records and these windows too
abbrev pub with_told : Counts → List PropertyRecord → List WindowRecord → Counts
with_told counts records windows = record {
  found = counts.found + count_of is_found (entries_among records);
  impossible = counts.impossible + count_of is_impossible (entries_among records);
  undecided = counts.undecided + count_of is_undecided (entries_among records);
  too_many = counts.too_many + count_by has_too_many records;
  too_large = counts.too_large + count_by is_too_large windows;
}
