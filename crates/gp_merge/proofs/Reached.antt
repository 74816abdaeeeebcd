-- The part that has a window.
use Rattle.std.proofs.Common.{◌≡◌, ◌∙◌, refl, ap, subst, ℕ, zero, suc, ◌+◌, ◌-◌, ◌<◌, ◌≤◌, List, [], ◌∷◌, drop, arith}
use Rattle.std.specs.Prelude.{Some, slice_get}
use Rattle.gp_checker.specs.declared.failure.Failure.{Failure}
use Rattle.gp_cut.specs.declared.parting.Part.{Part}
use Rattle.gp_merge.specs.Checking.{AreNeighbours, IsOfPart}
use Rattle.gp_merge.specs.Reaching.{Reach}

-- parts end where they begin, or later
neighbours_rise : (before last : ℕ) (parts : List Part) → AreNeighbours before parts last → before ≤ last
neighbours_rise before last [] row = omega (arith, row)
neighbours_rise before last (part ∷ parts) row =
    let later : before + part.count ≤ last = neighbours_rise (before + part.count) last parts row.1 in omega (arith, later)

-- the first of those that are left begins where they begin, and ends no later
pub record IsFront (before last : ℕ) (part : Part) : Type 0 where
  pub begins : part.before ≡ before
  pub ends : before + part.count ≤ last

pub front_of : (parts : List Part) (i before last : ℕ) (part : Part) → slice_get parts i ≡ Some part → AreNeighbours before (drop i parts) last → IsFront before last part
front_of [] i before last part there row = absurd (cc)
front_of (first ∷ parts) zero before last part there row =
    let same : first ≡ part = cc in
    subst (IsFront before last) same (record { begins = row.0; ends = neighbours_rise (before + first.count) last parts row.1 })
front_of (first ∷ parts) (suc i) before last part there row = front_of parts i before last part there row

-- the numbers of the windows of a part fit
pub windows_fit : (parts : List Part) (i window : ℕ) (part : Part) → slice_get parts i ≡ Some part → Reach (drop i parts) window → part.before + part.count ≤ 4096
windows_fit parts i window part there reach =
    let front = front_of parts i reach.before reach.last part there reach.row in
    omega (arith, front.begins, front.ends, reach.few)

-- a failure in a window that the part at this place is the first to reach
pub told_of_part : (parts : List Part) (i place : ℕ) (part : Part) (failure : Failure) → place ≡ i → slice_get parts i ≡ Some part
    → Reach (drop i parts) failure.window → failure.window ≤ part.before + part.count
    → IsOfPart parts failure (record { place = place; failure = record failure { window = failure.window - part.before + 1 } })
told_of_part parts i place part failure at there reach within =
    let front = front_of parts i reach.before reach.last part there reach.row in
    let behind : part.before < failure.window = omega (arith, front.begins, reach.behind) in
    record {
      part = part;
      there = ap (slice_get parts) at ∙ there;
      window = record { behind = behind; within = within; counted = omega (arith, behind) };
      same = refl;
    }
