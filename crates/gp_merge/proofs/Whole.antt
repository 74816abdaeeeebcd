-- A merged report is accepted for the whole recording.
use Rattle.std.proofs.Common.{◌≡◌, ◌∙◌, ap, sym, subst, ℕ, zero, suc, ◌+◌, ◌-◌, ◌≤◌, List, [], ◌∷◌, map, drop, add-one, arith}
use Rattle.std.specs.Prelude.{flat_map}
use Rattle.std.specs.List.{AllByRecursion, AllZip}
use Rattle.std.proofs.lemmas.List.Elements.{recursion_from_All}
use Rattle.gp_checker.specs.Accepted.{AcceptsWindow}
use Rattle.gp_cut.specs.Cut.{cut_of}
use Rattle.gp_cut.specs.Laws.{CanBeCut, CutWindowsAreTheSame}
use Rattle.gp_property.specs.PropertyForm.{PropertyForm}
use Rattle.gp_report.specs.Records.{WindowRecord}
use Rattle.gp_window.specs.RecordingForm.{RecordingForm}
use Rattle.gp_window.specs.WindowForm.{WindowForm, window_of}
use Rattle.gp_window.specs.Windows.{all_windows, windows_from}
use Rattle.gp_merge.specs.declared.merging.PartReport.{PartReport}
use Rattle.gp_merge.specs.Laws.{IsAcceptedPart, MergedIsAccepted}
use Rattle.gp_merge.specs.Merge.{AreInRow, part_windows, renumbered}
use Rattle.gp_merge.proofs.Numbers.{windows_append}
use Rattle.gp_merge.proofs.Renumbered.{accepts_again}
use Rattle.gp_merge.proofs.Rows.{row_left}
use Rattle.gp_merge.proofs.Zipped.{zip_append}

module _ (same : CutWindowsAreTheSame) (r : RecordingForm) (properties : List PropertyForm) (budget : ℕ) where
  -- what is told of windows is accepted
  abbrev Accepts : List WindowForm → List WindowRecord → Type 0
  Accepts windows told = AllZip (AcceptsWindow properties budget) windows told

  module _ (before count : ℕ) (cut : CanBeCut r before count) where
    -- a window behind the stage is the one for which it stands
    stands_for : (number own : ℕ) → 2 ≤ number → number ≤ count + 1 → own + 1 ≡ before + number
        → window_of (cut_of before count r) number ≡ record (window_of r own) { number = number }
    stands_for number own some few is =
        let there : number - 1 + 1 ≡ number = omega (arith, some) in
        let place : before + (number - 1) ≡ own = omega (arith, some, is) in
        subst (λ (n : ℕ). window_of (cut_of before count r) n ≡ record (window_of r own) { number = n }) there
        (subst (λ (n : ℕ). window_of (cut_of before count r) (number - 1 + 1) ≡ record (window_of r n) { number = number - 1 + 1 }) place
        (same r before count (number - 1) cut (omega (arith, some)) (omega (arith, some, few))))

    behind_stage : (number own more : ℕ) (told : List WindowRecord) → 2 ≤ number → number + more ≤ count + 2 → own + 1 ≡ before + number
        → Accepts (windows_from (cut_of before count r) number more) told → Accepts (windows_from r own more) (map (renumbered before) told)
    behind_stage number own zero [] some few is all = tt
    behind_stage number own zero (window ∷ told) some few is all = absurd all
    behind_stage number own (suc more) [] some few is all = absurd all
    behind_stage number own (suc more) (window ∷ told) some few is all = (
      accepts_again properties budget number (window_of r own) (window_of (cut_of before count r) number) window
          (stands_for number own some (omega (arith, few)) is) all.0,
      behind_stage (number + 1) (own + 1) more told (omega (arith, some)) (omega (arith, few)) (omega (arith, is)) all.1,
    )

    -- what is told of a part without its stage
    without_stage : (told : List WindowRecord) → Accepts (windows_from (cut_of before count r) 1 (suc count)) told
        → Accepts (windows_from r (before + 1) count) (map (renumbered before) (drop 1 told))
    without_stage [] all = absurd all
    without_stage (stage ∷ told) all = behind_stage 2 (before + 1) count told (omega arith) (omega arith) (omega arith) all.1

  of_part : (one : PartReport) → IsAcceptedPart r properties budget one → Accepts (windows_from r (one.part.before + 1) one.part.count) (part_windows one)
  of_part one is =
      without_stage one.part.before one.part.count is.cut one.report.windows
      (subst (λ (n : ℕ). Accepts (windows_from (cut_of one.part.before one.part.count r) 1 n) one.report.windows) (add-one one.part.count)
      (subst (λ (b : ℕ). AllZip (AcceptsWindow properties b) (all_windows (cut_of one.part.before one.part.count r)) one.report.windows) is.same_budget is.accepted))

  of_parts : (before last : ℕ) (parts : List PartReport) → AreInRow before parts last → AllByRecursion (IsAcceptedPart r properties budget) parts
      → Accepts (windows_from r (before + 1) (last - before)) (flat_map part_windows parts)
  of_parts before last [] row all =
      let none : 0 ≡ last - before = omega (arith, row) in subst (λ (n : ℕ). Accepts (windows_from r (before + 1) n) []) none tt
  of_parts before last (one ∷ parts) row all =
      let count : ℕ = one.part.count in
      let first : Accepts (windows_from r (before + 1) count) (part_windows one) =
      subst (λ (n : ℕ). Accepts (windows_from r (n + 1) count) (part_windows one)) row.0 (of_part one all.0) in
      let behind : before + count + 1 ≡ before + 1 + count = omega arith in
      let rest : Accepts (windows_from r (before + 1 + count) (last - (before + count))) (flat_map part_windows parts) =
      subst (λ (n : ℕ). Accepts (windows_from r n (last - (before + count))) (flat_map part_windows parts)) behind (of_parts (before + count) last parts row.1 all.1) in
      subst (λ (windows : List WindowForm). Accepts windows (flat_map part_windows (one ∷ parts)))
      (sym (ap (windows_from r (before + 1)) (row_left before last one parts row) ∙ windows_append r (before + 1) count (last - (before + count))))
      (zip_append (AcceptsWindow properties budget) (windows_from r (before + 1) count) (windows_from r (before + 1 + count) (last - (before + count))) (part_windows one)
      (flat_map part_windows parts) first rest)

pub merged_accepted : CutWindowsAreTheSame → MergedIsAccepted
merged_accepted same r properties format budget parts row all =
    let epochs : r.manifest.epochs - 0 ≡ r.manifest.epochs = omega arith in
    subst (λ (n : ℕ). AllZip (AcceptsWindow properties budget) (windows_from r 1 n) (flat_map part_windows parts)) epochs
    (of_parts same r properties budget 0 r.manifest.epochs parts row (recursion_from_All (IsAcceptedPart r properties budget) parts all))
