-- The rows of the properties add up to the row of all.
use Rattle.std.proofs.Common.{◌≡◌, ◌≢◌, refl, ℕ, ◌+◌, Bool, true, false, cond, bytes_eq, count_by, filter, map, sum_by, inl, inr, List, [], ◌∷◌, ◌++◌, Result, Ok, Err, Contains, ap, ◌∙◌, sym, arith}
use Rattle.std.specs.List.{AllByRecursion, AllZip, enumerate_from}
use Rattle.std.proofs.lemmas.Bool.{false_from_ne_true}
use Rattle.std.proofs.lemmas.List.Sums.{sum_by-cons}
use Rattle.std.proofs.lemmas.List.Concat.{flat_map-append}
use Rattle.std.proofs.lemmas.Slice.Eq.{bytes_eq-Decides}
use Rattle.gp_base.specs.ListLaws.{contains_from_map, first_or_rest, nothing_in, recursion_append, recursion_at, recursion_from_each, there}
use Rattle.gp_certificate.specs.declared.step.Step.{Step}
use Rattle.gp_checker.specs.Accepted.{AcceptsBody, AcceptsProperty, AcceptsWindow, IsAccepted}
use Rattle.gp_constraint.specs.declared.fault.BaseFault.{BaseFault}
use Rattle.gp_constraint.specs.declared.fault.BaseFault.TheVariants.{Memory, TooLarge}
use Rattle.gp_constraint.specs.Encoded.{base_due}
use Rattle.gp_property.specs.PropertyForm.{PropertyForm}
use Rattle.gp_report.specs.declared.record.WindowBodyOf.TheVariants as told
use Rattle.gp_report.specs.Entries.{count_of, entries_among, entries_in, entries_of, is_found, is_impossible, is_undecided, properties_in}
use Rattle.gp_report.specs.Records.{Answer, Entry, PropertyRecord, WindowBody, WindowRecord}
use Rattle.gp_report.specs.ReportForm.{ReportForm}
use Rattle.gp_window.specs.RecordingForm.{RecordingForm}
use Rattle.gp_window.specs.WindowForm.{WindowForm}
use Rattle.gp_window.specs.Windows.{all_windows}
use Rattle.gp_overview.specs.Counts.{has_name, has_too_many, records_named, records_of}
use Rattle.gp_overview.specs.Laws.{HaveOwnNames, TablesAddUp}
use Rattle.gp_overview.proofs.Counted.{count_apart}

-- sums of two functions that agree, of two functions added, and of nothing
sum_agrees : {X : Type 0} (f g : X → ℕ) (xs : List X) → ((x : X) → f x ≡ g x) → sum_by f xs ≡ sum_by g xs
sum_agrees f g [] each = refl
sum_agrees f g (x ∷ xs) each = omega (arith, sum_by-cons f x xs, sum_by-cons g x xs, each x, sum_agrees f g xs each)

sum_of_sums : {X : Type 0} (f g : X → ℕ) (xs : List X) → sum_by (λ (x : X). f x + g x) xs ≡ sum_by f xs + sum_by g xs
sum_of_sums f g [] = refl
sum_of_sums {X} f g (x ∷ xs) = omega (arith, sum_by-cons f x xs, sum_by-cons g x xs, sum_by-cons (λ (y : X). f y + g y) x xs, sum_of_sums f g xs)

sum_of_none : {X : Type 0} (f : X → ℕ) (xs : List X) → AllByRecursion (λ (x : X). f x ≡ 0) xs → sum_by f xs ≡ 0
sum_of_none f [] none = refl
sum_of_none f (x ∷ xs) none = omega (arith, sum_by-cons f x xs, none.0, sum_of_none f xs none.1)

-- the names of properties
abbrev names : List PropertyForm → List (List ℕ)
names properties = map (λ (property : PropertyForm). property.name) properties

-- what is counted under a name, for the property that goes by it
abbrev share : ℕ → List ℕ → PropertyForm → ℕ
share count name property = cond (bytes_eq name property.name) count 0

shared : (count : ℕ) (name : List ℕ) (property : PropertyForm) → name ≡ property.name → share count name property ≡ count
shared count name property same = ap (λ (b : Bool). cond b count 0) ((bytes_eq-Decides name property.name).1 same)

not_shared : (count : ℕ) (name : List ℕ) (property : PropertyForm) → name ≢ property.name → share count name property ≡ 0
not_shared count name property other =
    ap (λ (b : Bool). cond b count 0) (false_from_ne_true (bytes_eq name property.name) (λ same. other ((bytes_eq-Decides name property.name).0 same)))

-- a name that one property has is counted for that property alone
once : (count : ℕ) (name : List ℕ) (properties : List PropertyForm) → HaveOwnNames properties → Contains (names properties) name → sum_by (share count name) properties ≡ count
once count name [] own i = absurd (nothing_in name i)
once count name (first ∷ properties) own i =
    elim (first_or_rest first.name (names properties) name i) [
      | inl same ↦
          let others : AllByRecursion (λ (property : PropertyForm). share count name property ≡ 0) properties =
          recursion_from_each (λ (property : PropertyForm). share count name property ≡ 0) properties
          (λ property j. not_shared count name property (λ e. recursion_at (λ (other : PropertyForm). first.name ≡ other.name → ⊥) properties property own.0 j (same ∙ e))) in
          omega (arith, sum_by-cons (share count name) first properties, shared count name first (sym same), sum_of_none (share count name) properties others)
      | inr more ↦
          let found = contains_from_map (λ (property : PropertyForm). property.name) properties name more in
          let apart : first.name ≡ found.0.name → ⊥ = recursion_at (λ (other : PropertyForm). first.name ≡ other.name → ⊥) properties found.0 own.0 found.1 in
          omega (arith, sum_by-cons (share count name) first properties, not_shared count name first (λ e. apart (sym e ∙ sym found.2)), once count name properties own.1 more)
    ]

-- the name of a record is that of a property
abbrev IsNamed : List PropertyForm → PropertyRecord → Type 0
IsNamed properties told = Contains (names properties) told.name

-- what is counted record by record: so much of all records of a list, and so much of one
module _ (all_of : List PropertyRecord → ℕ) (own_of : PropertyRecord → ℕ) (none : all_of [] ≡ 0) (step : (told : PropertyRecord) (records : List PropertyRecord) → all_of (told ∷ records) ≡ own_of told + all_of records) where
  -- of the records of a name
  abbrev of_name : List PropertyRecord → PropertyForm → ℕ
  of_name records property = all_of (filter (has_name property.name) records)

  picked : (passes : Bool) (told : PropertyRecord) (records : List PropertyRecord) → all_of (cond passes (told ∷ records) records) ≡ cond passes (own_of told) 0 + all_of records
  picked true told records = step told records
  picked false told records = omega arith

  -- it adds up over the properties
  adds_up : (properties : List PropertyForm) (records : List PropertyRecord) → HaveOwnNames properties → AllByRecursion (IsNamed properties) records
      → sum_by (of_name records) properties ≡ all_of records
  adds_up properties [] own named =
      sum_of_none (of_name []) properties (recursion_from_each (λ (property : PropertyForm). of_name [] property ≡ 0) properties (λ property i. none)) ∙ sym none
  adds_up properties (told ∷ records) own named =
      let parts : sum_by (of_name (told ∷ records)) properties ≡ sum_by (λ (property : PropertyForm). share (own_of told) told.name property + of_name records property) properties =
      sum_agrees (of_name (told ∷ records)) (λ (property : PropertyForm). share (own_of told) told.name property + of_name records property) properties
      (λ property. picked (bytes_eq told.name property.name) told (filter (has_name property.name) records)) in
      omega (
        arith,
        parts,
        sum_of_sums (share (own_of told) told.name) (of_name records) properties,
        once (own_of told) told.name properties own named.0,
        adds_up properties records own named.1,
        step told records,
      )

-- each record of an accepted report has the name of a property
further : (property : PropertyForm) (properties : List PropertyForm) (records : List PropertyRecord) → AllByRecursion (IsNamed properties) records → AllByRecursion (IsNamed (property ∷ properties)) records
further property properties records all =
    recursion_from_each (IsNamed (property ∷ properties)) records
    (λ told i. there property.name (names properties) told.name (recursion_at (IsNamed properties) records told all i))

module _ (window : WindowForm) (budget : ℕ) (shared_steps : List Step) where
  records_named_so : (number : ℕ) (properties : List PropertyForm) (records : List PropertyRecord)
      → AllZip (AcceptsProperty window budget shared_steps) (enumerate_from number properties) records → AllByRecursion (IsNamed properties) records
  records_named_so number [] [] all = tt
  records_named_so number [] (told ∷ records) all = absurd all
  records_named_so number (property ∷ properties) [] all = absurd all
  records_named_so number (property ∷ properties) (told ∷ records) all =
      ((0, omega arith, sym all.0.0), further property properties records (records_named_so (number + 1) properties records all.1))

  body_named : (properties : List PropertyForm) (due : Result WindowForm BaseFault) (body : WindowBody) → AcceptsBody window budget properties shared_steps due body
      → AllByRecursion (IsNamed properties) (properties_in body)
  body_named properties (Err (TooLarge events clauses)) (told.TooLarge e c) accepts = tt
  body_named properties (Err (TooLarge events clauses)) (told.Answers records) accepts = absurd accepts
  body_named properties (Err Memory) (told.TooLarge e c) accepts = absurd accepts
  body_named properties (Err Memory) (told.Answers records) accepts = absurd accepts
  body_named properties (Ok encoded) (told.TooLarge e c) accepts = absurd accepts
  body_named properties (Ok encoded) (told.Answers records) accepts = records_named_so 0 properties records accepts.1

windows_named : (properties : List PropertyForm) (budget : ℕ) (windows : List WindowForm) (records : List WindowRecord)
    → AllZip (AcceptsWindow properties budget) windows records → AllByRecursion (IsNamed properties) (records_of records)
windows_named properties budget [] [] all = tt
windows_named properties budget [] (one ∷ records) all = absurd all
windows_named properties budget (window ∷ windows) [] all = absurd all
windows_named properties budget (window ∷ windows) (one ∷ records) all =
    recursion_append (IsNamed properties) (properties_in one.body) (records_of records)
    (body_named window budget one.shared properties (base_due window) one.body all.0) (windows_named properties budget windows records all.1)

-- how often an answer is given adds up record by record
answers_step : (is_such : Answer → Bool) (told : PropertyRecord) (records : List PropertyRecord)
    → count_of is_such (entries_among (told ∷ records)) ≡ count_of is_such (entries_in told.body) + count_of is_such (entries_among records)
answers_step is_such told records = count_apart is_such (entries_in told.body) (entries_among records)

answers_add_up : (is_such : Answer → Bool) (recording : RecordingForm) (properties : List PropertyForm) (report : ReportForm) → HaveOwnNames properties → IsAccepted recording properties report
    → sum_by (λ (property : PropertyForm). count_of is_such (entries_among (records_named property.name report.windows))) properties ≡ count_of is_such (entries_among (records_of report.windows))
answers_add_up is_such recording properties report own accepted =
    adds_up (λ (records : List PropertyRecord). count_of is_such (entries_among records)) (λ (told : PropertyRecord). count_of is_such (entries_in told.body)) refl (answers_step is_such)
    properties (records_of report.windows) own (windows_named properties report.budget (all_windows recording) report.windows accepted)

too_many_add_up : (recording : RecordingForm) (properties : List PropertyForm) (report : ReportForm) → HaveOwnNames properties → IsAccepted recording properties report
    → sum_by (λ (property : PropertyForm). count_by has_too_many (records_named property.name report.windows)) properties ≡ count_by has_too_many (records_of report.windows)
too_many_add_up recording properties report own accepted =
    adds_up (count_by has_too_many) (λ (told : PropertyRecord). cond (has_too_many told) 1 0) refl (sum_by-cons (λ (told : PropertyRecord). cond (has_too_many told) 1 0))
    properties (records_of report.windows) own (windows_named properties report.budget (all_windows recording) report.windows accepted)

-- the entries of all records are all entries
entries_told : (windows : List WindowRecord) → entries_among (records_of windows) ≡ entries_of windows
entries_told [] = refl
entries_told (window ∷ windows) =
    flat_map-append (λ (told : PropertyRecord). entries_in told.body) (properties_in window.body) (records_of windows)
    ∙ ap (λ (rest : List Entry). entries_among (properties_in window.body) ++ rest) (entries_told windows)

pub tables_add_up : TablesAddUp
tables_add_up = record {
  found_all = λ windows. ap (count_of is_found) (entries_told windows);
  impossible_all = λ windows. ap (count_of is_impossible) (entries_told windows);
  undecided_all = λ windows. ap (count_of is_undecided) (entries_told windows);
  found = answers_add_up is_found;
  impossible = answers_add_up is_impossible;
  undecided = answers_add_up is_undecided;
  too_many = too_many_add_up;
}
