-- How many entries are found, impossible and undecided.
use Rattle.std.specs.Prelude.{◌+◌, List}
use Rattle.gp_report.specs.declared.record.EntryOf.{EntryOf}
use Rattle.gp_report.specs.declared.tally.Tally.{Tally}
use Rattle.gp_report.specs.Entries.{count_of, is_found, is_impossible, is_undecided}

-- a tally with these entries too
abbrev pub with_entries : {Shown : Type 0} → Tally → List (EntryOf Shown) → Tally
with_entries tally entries = record {
  found = tally.found + count_of is_found entries;
  impossible = tally.impossible + count_of is_impossible entries;
  undecided = tally.undecided + count_of is_undecided entries;
}

-- the tally of these entries
abbrev pub tally_of : {Shown : Type 0} → List (EntryOf Shown) → Tally
tally_of entries = with_entries (record { found = 0; impossible = 0; undecided = 0 }) entries
