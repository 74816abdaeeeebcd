-- What is told, counted one thing after another.
use Rattle.std.proofs.Common.{◌≡◌, refl, ℕ, ◌+◌, ◌<◌, Bool, cond, count_by, filter, get_or, length, drop, List, [], ◌∷◌, ◌++◌, ap, ◌∙◌, sym, arith}
use Rattle.std.proofs.lemmas.List.Concat.{flat_map-append}
use Rattle.std.proofs.lemmas.List.Elements.{filter-append}
use Rattle.std.proofs.lemmas.List.Sums.{sum_by-append}
use Rattle.gp_writer.specs.LinesLaws.{cut}
use Rattle.gp_report.specs.Entries.{count_of, entries_among, entries_in, is_found, is_impossible, is_undecided, properties_in}
use Rattle.gp_report.specs.Records.{Answer, Entry, PropertyRecord, WindowRecord}
use Rattle.gp_overview.specs.declared.counts.Counts.{Counts}
use Rattle.gp_overview.specs.Counting.{with_told}
use Rattle.gp_overview.specs.Counts.{has_name, has_too_many, is_too_large, records_of}

-- how often an answer is given by two lists of entries
pub count_apart : (is_such : Answer → Bool) (xs ys : List Entry) → count_of is_such (xs ++ ys) ≡ count_of is_such xs + count_of is_such ys
count_apart is_such xs ys = sum_by-append (λ (entry : Entry). cond (is_such entry.answer) 1 0) xs ys

counted : (n : ℕ) (is_such : Answer → Bool) (xs ys : List PropertyRecord)
    → (n + count_of is_such (entries_among xs)) + count_of is_such (entries_among ys) ≡ n + count_of is_such (entries_among (xs ++ ys))
counted n is_such xs ys =
    let apart : entries_among (xs ++ ys) ≡ entries_among xs ++ entries_among ys = flat_map-append (λ (told : PropertyRecord). entries_in told.body) xs ys in
    let sum : count_of is_such (entries_among (xs ++ ys)) ≡ count_of is_such (entries_among xs) + count_of is_such (entries_among ys) =
    ap (count_of is_such) apart ∙ count_apart is_such (entries_among xs) (entries_among ys) in
    omega arith

counted_by : {X : Type 0} (n : ℕ) (test : X → Bool) (xs ys : List X) → (n + count_by test xs) + count_by test ys ≡ n + count_by test (xs ++ ys)
counted_by {X} n test xs ys = omega (arith, sum_by-append (λ (x : X). cond (test x) 1 0) xs ys)

-- records and windows, and then more of both
told_more : (counts : Counts) (records more : List PropertyRecord) (windows further : List WindowRecord)
    → with_told (with_told counts records windows) more further ≡ with_told counts (records ++ more) (windows ++ further)
told_more counts records more windows further =
    rw (
      counted counts.found is_found records more,
      counted counts.impossible is_impossible records more,
      counted counts.undecided is_undecided records more,
      counted_by counts.too_many has_too_many records more,
      counted_by counts.too_large is_too_large windows further,
    ) refl

-- of a list of records some are picked, of two lists one after the other those of both
module _ (pick : List PropertyRecord → List PropertyRecord) (apart : (xs ys : List PropertyRecord) → pick (xs ++ ys) ≡ pick xs ++ pick ys) where
  -- one record more
  one_record : (counts whole : Counts) (records : List PropertyRecord) (told : PropertyRecord) (i : ℕ)
      → i < length records → told ≡ get_or records i told
      → with_told counts (pick (drop i records)) [] ≡ whole
      → with_told (with_told counts (pick (told ∷ [])) []) (pick (drop (i + 1) records)) [] ≡ whole
  one_record counts whole records told i below is all =
      told_more counts (pick (told ∷ [])) (pick (drop (i + 1) records)) [] []
      ∙ ap (λ (left : List PropertyRecord). with_told counts left []) (sym (apart (told ∷ []) (drop (i + 1) records)))
      ∙ ap (λ (left : List PropertyRecord). with_told counts (pick left) []) (sym (cut records told i below is))
      ∙ all

  -- one window more
  one_window : (counts whole : Counts) (windows : List WindowRecord) (window : WindowRecord) (i : ℕ)
      → i < length windows → window ≡ get_or windows i window
      → with_told counts (pick (records_of (drop i windows))) (drop i windows) ≡ whole
      → with_told (with_told counts (pick (properties_in window.body)) (window ∷ [])) (pick (records_of (drop (i + 1) windows))) (drop (i + 1) windows) ≡ whole
  one_window counts whole windows window i below is all =
      let rest : List WindowRecord = drop (i + 1) windows in
      told_more counts (pick (properties_in window.body)) (pick (records_of rest)) (window ∷ []) rest
      ∙ ap (λ (left : List PropertyRecord). with_told counts left (window ∷ rest)) (sym (apart (properties_in window.body) (records_of rest)))
      ∙ ap (λ (left : List WindowRecord). with_told counts (pick (records_of left)) left) (sym (cut windows window i below is))
      ∙ all

-- the same of the records of a name, and of all records
pub one_record_named : (name : List ℕ) (counts whole : Counts) (records : List PropertyRecord) (told : PropertyRecord) (i : ℕ)
    → i < length records → told ≡ get_or records i told
    → with_told counts (filter (has_name name) (drop i records)) [] ≡ whole
    → with_told (with_told counts (filter (has_name name) (told ∷ [])) []) (filter (has_name name) (drop (i + 1) records)) [] ≡ whole
one_record_named name = one_record (filter (has_name name)) (filter-append (has_name name))

pub one_window_named : (name : List ℕ) (counts whole : Counts) (windows : List WindowRecord) (window : WindowRecord) (i : ℕ)
    → i < length windows → window ≡ get_or windows i window
    → with_told counts (filter (has_name name) (records_of (drop i windows))) (drop i windows) ≡ whole
    → with_told (with_told counts (filter (has_name name) (properties_in window.body)) (window ∷ [])) (filter (has_name name) (records_of (drop (i + 1) windows))) (drop (i + 1) windows) ≡ whole
one_window_named name = one_window (filter (has_name name)) (filter-append (has_name name))

pub one_record_more : (counts whole : Counts) (records : List PropertyRecord) (told : PropertyRecord) (i : ℕ)
    → i < length records → told ≡ get_or records i told
    → with_told counts (drop i records) [] ≡ whole
    → with_told (with_told counts (told ∷ []) []) (drop (i + 1) records) [] ≡ whole
one_record_more = one_record (λ records. records) (λ xs ys. refl)

pub one_window_more : (counts whole : Counts) (windows : List WindowRecord) (window : WindowRecord) (i : ℕ)
    → i < length windows → window ≡ get_or windows i window
    → with_told counts (records_of (drop i windows)) (drop i windows) ≡ whole
    → with_told (with_told counts (properties_in window.body) (window ∷ [])) (records_of (drop (i + 1) windows)) (drop (i + 1) windows) ≡ whole
one_window_more = one_window (λ records. records) (λ xs ys. refl)
