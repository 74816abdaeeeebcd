-- Parts that follow one another.
use Rattle.std.proofs.Common.{◌≡◌, ℕ, ◌+◌, ◌-◌, ◌≤◌, List, [], ◌∷◌, arith}
use Rattle.gp_merge.specs.declared.merging.PartReport.{PartReport}
use Rattle.gp_merge.specs.Merge.{AreInRow}

-- they end where they begin, or later
pub row_rises : (before last : ℕ) (parts : List PartReport) → AreInRow before parts last → before ≤ last
row_rises before last [] row = omega (arith, row)
row_rises before last (one ∷ parts) row =
    let later : before + one.part.count ≤ last = row_rises (before + one.part.count) last parts row.1 in omega (arith, later)

-- no more windows are left for those behind the first
pub row_left : (before last : ℕ) (one : PartReport) (parts : List PartReport) → AreInRow before (one ∷ parts) last
    → last - before ≡ one.part.count + (last - (before + one.part.count))
row_left before last one parts row =
    let later : before + one.part.count ≤ last = row_rises (before + one.part.count) last parts row.1 in omega (arith, later)
