-- A text can tell a merged report.
use Rattle.std.proofs.Common.{◌≡◌, ◌∙◌, ◌⊎◌, refl, ap, sym, subst, ℕ, ◌+◌, ◌-◌, ◌≤◌, List, [], ◌∷◌, ◌++◌, map, drop, length, arith}
use Rattle.std.specs.Prelude.{All, flat_map}
use Rattle.std.specs.List.{AllByRecursion}
use Rattle.std.proofs.lemmas.List.{length-map, map-append}
use Rattle.std.proofs.lemmas.List.Elements.{All-drop, All-from_recursion, recursion_from_All}
use Rattle.gp_base.specs.ListLaws.{recursion_at, recursion_flat_map, recursion_map}
use Rattle.gp_report.specs.Records.{WindowRecord}
use Rattle.gp_report.specs.Report.{IsReport, IsWindowRecord}
use Rattle.gp_window.specs.WindowForm.{numbers_from}
use Rattle.gp_window.specs.WindowsLaws.{count_numbers}
use Rattle.gp_merge.specs.declared.merging.PartReport.{PartReport}
use Rattle.gp_merge.specs.Laws.{MergedIsReport}
use Rattle.gp_merge.specs.Merge.{AreInRow, AreParts, IsPartReport, merged, part_windows, renumbered}
use Rattle.gp_merge.proofs.Numbers.{numbers_append, numbers_moved}
use Rattle.gp_merge.proofs.Rows.{row_left}

-- the numbers under which windows are told
abbrev pub told_numbers : List WindowRecord → List ℕ
told_numbers windows = map (λ (window : WindowRecord). window.number) windows

told_behind : (before : ℕ) (windows : List WindowRecord) → told_numbers (map (renumbered before) windows) ≡ map (λ (n : ℕ). before + (n - 1)) (told_numbers windows)
told_behind before [] = refl
told_behind before (window ∷ windows) = ap (λ (rest : List ℕ). (before + (window.number - 1)) ∷ rest) (told_behind before windows)

-- windows are numbered from 1, with the stage and without it
pub behind_first : (count : ℕ) (windows : List WindowRecord) → length windows ≡ count + 1 → told_numbers windows ≡ numbers_from 1 (length windows)
    → told_numbers (drop 1 windows) ≡ numbers_from 2 count
behind_first count [] long numbered = absurd (omega (arith, long))
behind_first count (stage ∷ windows) long numbered =
    let many : length windows ≡ count = omega (arith, long) in
    ap (drop 1) numbered ∙ ap (numbers_from 2) many

module _ (format budget : ℕ) where
  numbers_of_part : (one : PartReport) → IsPartReport format budget one → told_numbers (part_windows one) ≡ numbers_from (one.part.before + 1) one.part.count
  numbers_of_part one is =
      told_behind one.part.before (drop 1 one.report.windows)
      ∙ ap (map (λ (n : ℕ). one.part.before + (n - 1))) (behind_first one.part.count one.report.windows is.windows is.report.numbered)
      ∙ numbers_moved one.part.before 2 (one.part.before + 1) one.part.count (omega arith) (omega arith)

  pub numbers_of_parts : (before last : ℕ) (parts : List PartReport) → AreInRow before parts last → AllByRecursion (IsPartReport format budget) parts
      → told_numbers (flat_map part_windows parts) ≡ numbers_from (before + 1) (last - before)
  numbers_of_parts before last [] row all = let none : 0 ≡ last - before = omega (arith, row) in ap (numbers_from (before + 1)) none
  numbers_of_parts before last (one ∷ parts) row all =
      let count : ℕ = one.part.count in
      let behind : before + count + 1 ≡ before + 1 + count = omega arith in
      map-append (λ (window : WindowRecord). window.number) (part_windows one) (flat_map part_windows parts)
      ∙ ap (λ (first : List ℕ). first ++ told_numbers (flat_map part_windows parts)) (numbers_of_part one all.0 ∙ ap (λ (n : ℕ). numbers_from (n + 1) count) row.0)
      ∙ ap (λ (rest : List ℕ). numbers_from (before + 1) count ++ rest)
      (numbers_of_parts (before + count) last parts row.1 all.1 ∙ ap (λ (n : ℕ). numbers_from n (last - (before + count))) behind)
      ∙ sym (ap (numbers_from (before + 1)) (row_left before last one parts row) ∙ numbers_append (before + 1) count (last - (before + count)))

  told_again : (before : ℕ) (window : WindowRecord) → IsWindowRecord format window → IsWindowRecord format (renumbered before window)
  told_again before window is = record { shared = is.shared; first_format = is.first_format; body = is.body }

  records_of_part : (one : PartReport) → IsPartReport format budget one → AllByRecursion (IsWindowRecord format) (part_windows one)
  records_of_part one is =
      let each : AllByRecursion (IsWindowRecord format) (drop 1 one.report.windows) =
      recursion_from_All (IsWindowRecord format) (drop 1 one.report.windows)
      (All-drop (IsWindowRecord format) 1 one.report.windows (subst (λ (n : ℕ). All (IsWindowRecord n) one.report.windows) is.same_format is.report.windows)) in
      recursion_map (IsWindowRecord format) (renumbered one.part.before) (drop 1 one.report.windows)
      (λ window i. told_again one.part.before window (recursion_at (IsWindowRecord format) (drop 1 one.report.windows) window each i))

  -- windows that are told under these numbers are numbered
  numbered_by : (windows : List WindowRecord) (count : ℕ) → told_numbers windows ≡ numbers_from 1 count → told_numbers windows ≡ numbers_from 1 (length windows)
  numbered_by windows count numbers =
      let many : count ≡ length windows =
      sym (sym (length-map windows (λ (window : WindowRecord). window.number)) ∙ ap (λ (told : List ℕ). length told) numbers ∙ count_numbers 1 count) in
      numbers ∙ ap (numbers_from 1) many

  told_whole : (last : ℕ) (first : PartReport) (more : List PartReport) → AreInRow 0 (first ∷ more) last
      → AllByRecursion (IsPartReport format budget) (first ∷ more) → IsReport (merged format budget (first ∷ more))
  told_whole last first more row all = record {
    format = subst (λ (n : ℕ). (n ≡ 1) ⊎ (n ≡ 2)) all.0.same_format all.0.report.format;
    budget_some = subst (λ (n : ℕ). 1 ≤ n) all.0.same_budget all.0.report.budget_some;
    budget_few = subst (λ (n : ℕ). n ≤ 1000000) all.0.same_budget all.0.report.budget_few;
    numbered = numbered_by (flat_map part_windows (first ∷ more)) (last - 0) (numbers_of_parts 0 last (first ∷ more) row all);
    windows = All-from_recursion (IsWindowRecord format) (flat_map part_windows (first ∷ more))
        (recursion_flat_map (IsWindowRecord format) part_windows (first ∷ more)
        (λ one i. records_of_part one (recursion_at (IsPartReport format budget) (first ∷ more) one all i)));
  }

pub merged_told : MergedIsReport
merged_told format budget last first more row all = told_whole format budget last first more row (recursion_from_All (IsPartReport format budget) (first ∷ more) all)

-- as parts are told that are all of a recording
pub parts_told : (format budget : ℕ) (parts : List PartReport) → AreParts format budget parts → IsReport (merged format budget parts)
parts_told format budget [] are = absurd (omega (arith, are.some))
parts_told format budget (first ∷ more) are = merged_told format budget are.last first more are.row are.reports
