-- The windows of parts can be moved.
use Rattle.std.proofs.Common.{◌≡◌, ap, ℕ, zero, suc, ◌+◌, ◌≤◌, ◌^◌, List, [], ◌∷◌, drop, arith}
use Rattle.std.specs.List.{AllByRecursion}
use Rattle.std.proofs.lemmas.List.Elements.{recursion_from_All}
use Rattle.gp_report.specs.Records.{WindowRecord}
use Rattle.gp_window.specs.WindowForm.{numbers_from}
use Rattle.gp_merge.specs.declared.merging.PartReport.{PartReport}
use Rattle.gp_merge.specs.Merge.{AreInRow, AreParts, IsPartReport}
use Rattle.gp_merge.specs.Moving.{CanMove, CanMoveAll}
use Rattle.gp_merge.proofs.Rows.{row_rises}
use Rattle.gp_merge.proofs.Told.{behind_first, told_numbers}

-- windows that are numbered like this, so few that the last number fits
each_moves : (before number count : ℕ) (windows : List WindowRecord) → 1 ≤ number → before + number + count ≤ 2 ^ 32
    → told_numbers windows ≡ numbers_from number count → AllByRecursion (CanMove before) windows
each_moves before number count [] some few numbered = tt
each_moves before number zero (window ∷ windows) some few numbered = cc
each_moves before number (suc count) (window ∷ windows) some few numbered =
    let own : window.number ≡ number = cc in
    let rest : told_numbers windows ≡ numbers_from (number + 1) count = ap (drop 1) numbered in
    ((omega (arith, own, some), omega (arith, own, few)), each_moves before (number + 1) count windows (omega (arith, some)) (omega (arith, few)) rest)

module _ (format budget : ℕ) where
  part_moves : (one : PartReport) → one.part.before + one.part.count ≤ 4096 → IsPartReport format budget one → CanMoveAll one
  part_moves one few is = record {
    stage = omega (arith, is.windows);
    each = each_moves one.part.before 2 one.part.count (drop 1 one.report.windows) (omega arith) (omega (arith, few))
        (behind_first one.part.count one.report.windows is.windows is.report.numbered);
  }

  parts_move : (before last : ℕ) (parts : List PartReport) → last ≤ 4096 → AreInRow before parts last → AllByRecursion (IsPartReport format budget) parts
      → AllByRecursion CanMoveAll parts
  parts_move before last [] few row all = tt
  parts_move before last (one ∷ parts) few row all =
      let later : before + one.part.count ≤ last = row_rises (before + one.part.count) last parts row.1 in
      let here : one.part.before ≡ before = row.0 in
      (part_moves one (omega (arith, few, later, here)) all.0, parts_move (before + one.part.count) last parts few row.1 all.1)

  pub parts_can_move : (parts : List PartReport) → AreParts format budget parts → AllByRecursion CanMoveAll parts
  parts_can_move parts are = parts_move 0 are.last parts are.few are.row (recursion_from_All (IsPartReport format budget) parts are.reports)
