-- Windows that are cut out of a recording are read from their files.
use Rattle.std.proofs.Common.{◌≡◌, ℕ, ℤ, zero, suc, ◌+◌, true, FitsSigned, w64, List, [], ◌∷◌, map, filter}
use Rattle.std.specs.Prelude.{◌==◌}
use Rattle.std.specs.declared.cmp.Ordering.{Ordering}
use Rattle.std.specs.declared.cmp.Ordering.TheVariants.{Less, Equal, Greater}
use Rattle.std.specs.BTreeMap.{insert_entry}
use Rattle.std.specs.Cmp.Lexicographic.{slice_cmp}
use Rattle.std.specs.List.{AllByRecursion}
use Rattle.std.specs.Ordering.{match_ordering, nat_cmp}
use Rattle.std.proofs.lemmas.List.Elements.{All-from_recursion, recursion_from_All}
use Rattle.gp_base.specs.FilterLaws.{recursion_filter}
use Rattle.gp_base.specs.ListLaws.{recursion_append, recursion_at, recursion_map}
use Rattle.gp_base.specs.Table.{with_entry}
use Rattle.gp_cut.specs.Cut.{cut_of, cut_values, first_value, is_later, moved}
use Rattle.gp_cut.specs.Laws.{CanBeCut, CutsAreRecordings}
use Rattle.gp_text.specs.Name.{is_name}
use Rattle.gp_window.specs.declared.manifest.StartValue.{StartValue}
use Rattle.gp_window.specs.Grammar.{IsStartValue}
use Rattle.gp_window.specs.WindowForm.{given_all, values_at}
use Rattle.gp_cut_files.specs.Reading.{CutsAreRead, RecordingReadsAgain, WhatIsReadCanBeSpelled}

-- a variable that is a name, with a value of its width
abbrev IsNamed : List ℕ × ℤ → Type 0
IsNamed value = (is_name value.0 ≡ true) × FitsSigned w64 value.1

-- one more value is put among such values
put_named : (values : List (List ℕ × ℤ)) (variable : List ℕ) (value : ℤ) → AllByRecursion IsNamed values → IsNamed (variable, value)
    → AllByRecursion IsNamed (with_entry (slice_cmp nat_cmp) values variable value)
put_named [] variable value are is = (is, tt)
put_named (one ∷ values) variable value are is = by_order (slice_cmp nat_cmp variable one.0) (put_named values variable value are.1 is)
  where
    by_order : (order : Ordering) → AllByRecursion IsNamed (insert_entry (slice_cmp nat_cmp) values variable value)
        → AllByRecursion IsNamed (match_ordering order ((variable, value) ∷ one ∷ values) ((one.0, value) ∷ values) (one ∷ insert_entry (slice_cmp nat_cmp) values variable value))
    by_order Less later = (is, are)
    by_order Equal later = ((are.0.0, is.1), are.1)
    by_order Greater later = (are.0, later)

given_named : (values : List (List ℕ × ℤ)) (given : List StartValue) → AllByRecursion IsNamed values → AllByRecursion IsStartValue given
    → AllByRecursion IsNamed (given_all values given)
given_named values [] are all = are
given_named values (one ∷ given) are all =
    given_named (with_entry (slice_cmp nat_cmp) values one.variable one.value) given (put_named values one.variable one.value are all.0) all.1

values_named : (given : List StartValue) (k : ℕ) → AllByRecursion IsStartValue given → AllByRecursion IsNamed (values_at given k)
values_named given zero all = tt
values_named given (suc k) all =
    given_named (values_at given k) (filter (λ value. value.window == suc k) given) (values_named given k all)
    (recursion_filter IsStartValue (λ value. value.window == suc k) given all)

-- what can be spelled of the whole can be spelled of what is cut out
cut_named : (before count : ℕ) (given : List StartValue) → AllByRecursion IsStartValue given → AllByRecursion IsStartValue (cut_values before count given)
cut_named before zero given all = tt
cut_named before (suc more) given all =
    let firsts : List (List ℕ × ℤ) = values_at given (before + 1) in
    let laters : List StartValue = filter (is_later before (suc more)) given in
    recursion_append IsStartValue (map first_value firsts) (map (moved before) laters)
    (recursion_map IsStartValue first_value firsts (λ value i. recursion_at IsNamed firsts value (values_named given (before + 1) all) i))
    (recursion_map IsStartValue (moved before) laters (λ value i.
    recursion_at IsStartValue laters value (recursion_filter IsStartValue (is_later before (suc more)) given all) i))

pub cuts_read : WhatIsReadCanBeSpelled → CutsAreRecordings → RecordingReadsAgain → CutsAreRead
cuts_read what cuts again source files from out r before count read there few stand =
    let was = what source from r read in
    let can : CanBeCut r before count = record { rules = was.rules; there = there; few = few } in
    again files out (cut_of before count r) (record {
      rules = cuts.rules r before count can;
      values = All-from_recursion IsStartValue (cut_values before count r.manifest.values)
          (cut_named before count r.manifest.values (recursion_from_All IsStartValue r.manifest.values was.values));
      format = cuts.format r before count can was.format;
    }) stand
