-- Each window of a recording that is parted is in exactly one part.
use Rattle.std.proofs.Common.{◌≡◌, sym, subst, inl, inr, ℕ, zero, suc, ◌+◌, ◌-◌, ◌<◌, ◌≤◌, List, arith}
use Rattle.std.proofs.lemmas.Bool.{cases_lt, cases_order}
use Rattle.gp_window.specs.RecordingForm.{RecordingForm}
use Rattle.gp_cut.specs.Parts.{IsIn, part_of, PartsAreWhole, weight_of, weights_of, windows_to}
use Rattle.std.specs.Prelude.{sum}
use Rattle.gp_cut.proofs.Middles.{all_to_last, more_to_later, none_to_first}

-- no fewer windows are in a part and those before it than in an earlier one and those before that
pub rises : (part later parts : ℕ) (weights : List ℕ) → part ≤ later → windows_to part parts weights ≤ windows_to later parts weights
rises part later parts weights = more_to_later part later parts (sum weights) 0 weights

-- all parts have all windows together
pub ends : (parts : ℕ) (r : RecordingForm) → 1 ≤ parts → windows_to parts parts (weights_of r) ≡ r.manifest.epochs
ends parts r some = all_to_last (weight_of r) parts (sum (weights_of r)) 0 0 r.manifest.epochs some (λ k. omega arith) (omega arith)

-- a window is in a part where it is behind the end of the part before, and before the end of this one
is_in : (window part before parts : ℕ) (weights : List ℕ) → part ≡ before + 1 → windows_to before parts weights ≤ window
    → window < windows_to part parts weights → IsIn window (part_of part parts weights)
is_in window part before parts weights next first last =
    let same : part - 1 ≡ before = omega (arith, next) in
    record {
      first = subst (λ (k : ℕ). windows_to k parts weights ≤ window) (sym same) first;
      last = omega (arith, last, rises (part - 1) part parts weights (omega arith));
    }

-- a window before the end of a part is in that part or in one before
found : (window last parts : ℕ) (weights : List ℕ) → window < windows_to last parts weights
    → (part : ℕ) × (1 ≤ part) × (part ≤ last) × IsIn window (part_of part parts weights)
found window zero parts weights within = absurd (omega (arith, within, none_to_first parts (sum weights) 0 weights))
found window (suc before) parts weights within =
    elim (cases_lt window (windows_to before parts weights)) [
      | inl earlier ↦
          let there = found window before parts weights earlier in
          (there.0, there.1, omega (arith, there.2), there.3)
      | inr here ↦ (suc before, omega arith, omega arith, is_in window (suc before) before parts weights (omega arith) here within)
    ]

-- a window that is in a part is in no later one
apart : (window one other parts : ℕ) (weights : List ℕ) → one < other → IsIn window (part_of one parts weights) → IsIn window (part_of other parts weights) → ⊥
apart window one other parts weights earlier here there =
    let ends_after = rises (one - 1) one parts weights (omega arith) in
    let begins_after = rises one (other - 1) parts weights (omega (arith, earlier)) in
    omega (arith, ends_after, begins_after, here.last, there.first)

pub parts_are_whole : PartsAreWhole
parts_are_whole = record {
  begins = λ parts weights. none_to_first parts (sum weights) 0 weights;
  ends = ends;
  rises = λ part parts weights. rises part (part + 1) parts weights (omega arith);
  some = λ parts window r some within. found window parts parts (weights_of r) (omega (arith, within, ends parts r some));
  one = λ one other parts window weights some_one some_other here there. elim (cases_order one other) [
    | inl same ↦ same
    | inr (inl earlier) ↦ absurd (apart window one other parts weights earlier here there)
    | inr (inr later) ↦ absurd (apart window other one parts weights later there here)
  ];
}
