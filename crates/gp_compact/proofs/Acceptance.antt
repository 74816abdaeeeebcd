-- A compacted report is accepted exactly where the report is of which it was made.
use Rattle.std.proofs.Common.{◌≡◌, refl, ap, sym, subst, ℕ, ◌+◌, ◌-◌, ◌^◌, ◌<◌, ◌↔◌, Bool, true, false, List, [], ◌∷◌, Result, Ok, Err, length, map, All, arith}
use Rattle.std.specs.Prelude.{if◌then◌else◌}
use Rattle.std.specs.List.{AllZip, enumerate_from}
use Rattle.std.proofs.lemmas.List.Elements.{All-weaker}
use Rattle.gp_constraint.specs.declared.fault.BaseFault.{BaseFault}
use Rattle.gp_constraint.specs.Base.{base_of}
use Rattle.gp_constraint.specs.Encoded.{base_due}
use Rattle.gp_constraint.specs.Laws.{ProblemsAreValid}
use Rattle.gp_certificate.specs.declared.step.Step.{Step}
use Rattle.gp_certificate.specs.Shared.{SharedPasses}
use Rattle.gp_property.specs.PropertyForm.{PropertyForm}
use Rattle.gp_report.specs.Records.{PropertyRecord, WindowBody, WindowRecord}
use Rattle.gp_report.specs.declared.record.WindowBodyOf.TheVariants.{TooLarge, Answers}
use Rattle.gp_report.specs.Entries.{entries_among}
use Rattle.gp_window.specs.WindowForm.{WindowForm}
use Rattle.gp_window.specs.Windows.{all_windows}
use Rattle.gp_sharing.specs.declared.sizes.Sizes.{Sizes}
use Rattle.gp_checker.specs.FrontLaws.{front_passes}
use Rattle.gp_checker.specs.Accepted.{AcceptsBody, AcceptsProperty, AcceptsWindow}
use Rattle.gp_compact.specs.Compact.{CompactKeepsAcceptance, compacted_over, compacted_window, compacted_windows, sizes_of}
use Rattle.gp_sharing.specs.Compacted.{are_few, body_by, entries_in_body, over_list, property_by, steps_in, with_entries}
use Rattle.gp_sharing.specs.Moving.{compacted_steps, first_own}
use Rattle.gp_constraint.specs.EncodedLaws.{is_encoded, is_valid}
use Rattle.gp_sharing.specs.GrownLaws.{HasRoom, begins_itself, entries_add, entries_begin, entries_leave_room}
use Rattle.gp_compact.proofs.Kept.{Fits, gather_entries, properties_kept, properties_pass}
use Rattle.gp_compact.proofs.Sized.{IsSized}
use Rattle.gp_sharing.specs.FoundLaws.{is_less}

-- the sizes of a window are those of its base and of its shared steps
sized : ProblemsAreValid → (window encoded : WindowForm) (shared : List Step) → base_due window ≡ Ok encoded → IsSized (base_of window).kinds (base_of window).clauses shared (sizes_of encoded shared)
sized valid window encoded shared due =
    let is = is_encoded window encoded due in
    record {
      clauses = ap (λ (w : WindowForm). length (base_of w).clauses) is.same;
      variables = ap (λ (w : WindowForm). length (base_of w).kinds) is.same;
      shared = refl;
      below = (is_valid valid window is.encodable).clauses;
    }

module _ (window : WindowForm) (budget : ℕ) (properties : List PropertyForm) (old : List Step) (sizes : Sizes) (is : IsSized (base_of window).kinds (base_of window).clauses old sizes) (records : List PropertyRecord)
    (few : first_own sizes + steps_in (entries_among records) < 2 ^ 31) where
  -- all numbers over the new list fit
  all_fit : All (Fits sizes (length (with_entries sizes old (entries_among records)) - sizes.shared)) (entries_among records)
  all_fit =
      All-weaker (HasRoom sizes (with_entries sizes old (entries_among records)) (length old + steps_in (entries_among records))) (Fits sizes (length (with_entries sizes old (entries_among records)) - sizes.shared))
      (λ entry room fixed.
      let left = room fixed in
      omega (arith, left, few, is.shared, entries_add sizes old (entries_among records)))
      (entries_among records) (entries_leave_room sizes old (entries_among records))

  abbrev Before : Type 0
  Before = SharedPasses (base_of window) old × AllZip (AcceptsProperty window budget old) (enumerate_from 0 properties) records

  abbrev After : Type 0
  After =
      SharedPasses (base_of window) (with_entries sizes old (entries_among records))
      × AllZip (AcceptsProperty window budget (with_entries sizes old (entries_among records))) (enumerate_from 0 properties)
      (map (property_by (compacted_steps sizes (with_entries sizes old (entries_among records)))) records)

  answers_kept : Before ↔ After
  answers_kept = (
    λ h.
        let checks : SharedPasses (base_of window) (with_entries sizes old (entries_among records)) =
        gather_entries window old sizes is old (begins_itself old) (entries_among records) (properties_pass window budget old (enumerate_from 0 properties) records h.1) h.0 in
        (checks, (kept checks).0 h.1),
    λ h. (first_ones h.0, (kept h.0).1 h.1),
  )
    where
      kept : (checks : SharedPasses (base_of window) (with_entries sizes old (entries_among records)))
          → AllZip (AcceptsProperty window budget old) (enumerate_from 0 properties) records
          ↔ AllZip (AcceptsProperty window budget (with_entries sizes old (entries_among records))) (enumerate_from 0 properties)
          (map (property_by (compacted_steps sizes (with_entries sizes old (entries_among records)))) records)
      kept checks = properties_kept window budget old sizes is (with_entries sizes old (entries_among records)) (entries_begin sizes old (entries_among records)) checks (enumerate_from 0 properties) records all_fit

      first_ones : SharedPasses (base_of window) (with_entries sizes old (entries_among records)) → SharedPasses (base_of window) old
      first_ones checks =
          let begins = entries_begin sizes old (entries_among records) in
          front_passes (base_of window).edges (base_of window).kinds (λ clauses. clauses) (λ clauses. clauses) (base_of window).clauses old begins.0 (subst (SharedPasses (base_of window)) begins.1 checks)

module _ (valid : ProblemsAreValid) (budget : ℕ) (properties : List PropertyForm) where
  body_kept : (window encoded : WindowForm) (told : WindowRecord) (body : WindowBody) → base_due window ≡ Ok encoded → (b : Bool) → are_few (sizes_of encoded told.shared) body ≡ b
      → AcceptsBody window budget properties told.shared (Ok encoded) body
      ↔ AcceptsBody window budget properties (if b then with_entries (sizes_of encoded told.shared) told.shared (entries_in_body body) else told.shared) (Ok encoded)
      (if b then body_by (compacted_steps (sizes_of encoded told.shared) (with_entries (sizes_of encoded told.shared) told.shared (entries_in_body body))) body else body)
  body_kept window encoded told body due false many = (λ h. h, λ h. h)
  body_kept window encoded told (TooLarge events clauses) due true few = (λ h. h, λ h. h)
  body_kept window encoded told (Answers records) due true few =
      let sizes = sizes_of encoded told.shared in
      answers_kept window budget properties told.shared sizes (sized valid window encoded told.shared due) records (is_less (first_own sizes + steps_in (entries_among records)) (2 ^ 31) few)

  -- a window with these sizes, in parts
  by_parts : (window : WindowForm) (sizes : Sizes) (told : WindowRecord) (b : Bool)
      → AcceptsBody window budget properties (if b then over_list sizes (with_entries sizes told.shared (entries_in_body told.body)) told else told).shared (base_due window)
      (if b then over_list sizes (with_entries sizes told.shared (entries_in_body told.body)) told else told).body
      ↔ AcceptsBody window budget properties (if b then with_entries sizes told.shared (entries_in_body told.body) else told.shared) (base_due window)
      (if b then body_by (compacted_steps sizes (with_entries sizes told.shared (entries_in_body told.body))) told.body else told.body)
  by_parts window sizes told true = (λ h. h, λ h. h)
  by_parts window sizes told false = (λ h. h, λ h. h)

  window_kept : (window : WindowForm) (told : WindowRecord) → AcceptsWindow properties budget window (compacted_window window told) ↔ AcceptsWindow properties budget window told
  window_kept window told = by (base_due window) refl
    where
      by : (due : Result WindowForm BaseFault) → base_due window ≡ due
          → AcceptsBody window budget properties (compacted_over due told).shared (base_due window) (compacted_over due told).body ↔ AcceptsBody window budget properties told.shared (base_due window) told.body
      by (Err fault) is = (λ h. h, λ h. h)
      by (Ok encoded) is =
          let sizes = sizes_of encoded told.shared in
          let parts = by_parts window sizes told (are_few sizes told.body) in
          let kept = body_kept window encoded told told.body is (are_few sizes told.body) refl in
          let P : Result WindowForm BaseFault → Type 0 = λ due. AcceptsBody window budget properties told.shared due told.body in
          let Q : Result WindowForm BaseFault → Type 0 =
          λ due. AcceptsBody window budget properties (if are_few sizes told.body then with_entries sizes told.shared (entries_in_body told.body) else told.shared) due
          (if are_few sizes told.body then body_by (compacted_steps sizes (with_entries sizes told.shared (entries_in_body told.body))) told.body else told.body) in
          (λ h. subst P (sym is) (kept.1 (subst Q is (parts.0 h))), λ h. parts.1 (subst Q (sym is) (kept.0 (subst P is h))))

  windows_kept : (windows : List WindowForm) (records : List WindowRecord) → AllZip (AcceptsWindow properties budget) windows (compacted_windows windows records) ↔ AllZip (AcceptsWindow properties budget) windows records
  windows_kept [] [] = (λ h. h, λ h. h)
  windows_kept (window ∷ windows) [] = (λ h. h, λ h. h)
  windows_kept [] (told ∷ records) = (λ h. h, λ h. h)
  windows_kept (window ∷ windows) (told ∷ records) =
      let first = window_kept window told in
      let rest = windows_kept windows records in
      (λ h. (first.0 h.0, rest.0 h.1), λ h. (first.1 h.0, rest.1 h.1))

pub keeps_acceptance : ProblemsAreValid → CompactKeepsAcceptance
keeps_acceptance valid = λ recording properties report. windows_kept valid report.budget properties (all_windows recording) report.windows
