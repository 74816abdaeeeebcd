-- How a window is taken of those that are still to come.
use Rattle.std.proofs.Common.{◌≡◌, sym, ap, ◌∙◌, ℕ, suc, ◌+◌, ◌-◌, ◌<◌, ◌≤◌, List, ◌∷◌, length, drop, get_or, None, Some, arith}
use Rattle.gp_window.specs.RecordingForm.{RecordingForm}
use Rattle.gp_window.specs.WindowForm.{WindowForm, window_of}
use Rattle.gp_window.specs.Windows.{TakesFirst, windows_from}
use Rattle.gp_window.specs.WindowsLaws.{first_window, windows_dropped}
use Rattle.gp_window.specs.declared.windows_ahead.WindowsAhead.{WindowsAhead}
use Rattle.gp_window.specs.Ahead.{AreAhead}

module _ (r : RecordingForm) (k : ℕ) (ahead : WindowsAhead) (left : List WindowForm) (are : AreAhead r ahead) (below : ahead.passed < k) (within : k ≤ r.manifest.epochs) (gone : left ≡ drop (k - 1 - ahead.passed) ahead.windows) where
  begins : left ≡ window_of r k ∷ windows_from r (k + 1) (r.manifest.epochs - k)
  begins =
      let skipped = k - 1 - ahead.passed in
      let here : ahead.passed + 1 + (k - 1 - ahead.passed) ≡ k = omega (arith, below) in
      let count : r.manifest.epochs - ahead.passed - (k - 1 - ahead.passed) ≡ r.manifest.epochs - k + 1 = omega (arith, below, within) in
      gone ∙ ap (drop skipped) are ∙ windows_dropped r (ahead.passed + 1) (r.manifest.epochs - ahead.passed) skipped ∙ ap (λ (n : ℕ). windows_from r n (r.manifest.epochs - ahead.passed - skipped)) here
      ∙ first_window r k (r.manifest.epochs - ahead.passed - skipped) (r.manifest.epochs - k) count

  -- past those before window k there is one to be taken
  pub some_left : (after : List WindowForm) → TakesFirst left None after → ⊥
  some_left after none =
      let size : suc (length (windows_from r (k + 1) (r.manifest.epochs - k))) ≡ 0 = ap (λ (ws : List WindowForm). length ws) (sym begins ∙ none.0) in
      absurd (omega (arith, size))

  -- it is window k, and those after it are left
  pub is_taken : (window : WindowForm) (after : List WindowForm) → TakesFirst left (Some window) after → (window ≡ window_of r k) × (after ≡ windows_from r (k + 1) (r.manifest.epochs - k))
  is_taken window after first =
      let same : window ∷ after ≡ window_of r k ∷ windows_from r (k + 1) (r.manifest.epochs - k) = sym first ∙ begins in
      (ap (λ (ws : List WindowForm). get_or ws 0 window) same, ap (λ (ws : List WindowForm). drop 1 ws) same)
