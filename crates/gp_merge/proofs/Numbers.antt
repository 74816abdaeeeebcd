-- Numbers that are counted up.
use Rattle.std.proofs.Common.{◌≡◌, ◌∙◌, refl, ap, sym, ℕ, zero, suc, ◌+◌, ◌-◌, ◌≤◌, List, ◌∷◌, ◌++◌, map, add-zero, zero-add, arith}
use Rattle.std.proofs.lemmas.List.{map-append}
use Rattle.gp_window.specs.RecordingForm.{RecordingForm}
use Rattle.gp_window.specs.WindowForm.{numbers_from, window_of}
use Rattle.gp_window.specs.Windows.{windows_from}

-- so many, and as many more behind them
pub numbers_append : (first count more : ℕ) → numbers_from first (count + more) ≡ numbers_from first count ++ numbers_from (first + count) more
numbers_append first zero more = ap (numbers_from first) (zero-add more) ∙ ap (λ (n : ℕ). numbers_from n more) (sym (add-zero first))
numbers_append first (suc count) more =
    let longer : suc count + more ≡ suc (count + more) = omega arith in
    let further : first + 1 + count ≡ first + suc count = omega arith in
    ap (numbers_from first) longer
    ∙ ap (λ (rest : List ℕ). first ∷ rest) (numbers_append (first + 1) count more)
    ∙ ap (λ (n : ℕ). first ∷ (numbers_from (first + 1) count ++ numbers_from n more)) further

-- so are the windows of these numbers
pub windows_append : (r : RecordingForm) (first count more : ℕ) → windows_from r first (count + more) ≡ windows_from r first count ++ windows_from r (first + count) more
windows_append r first count more =
    ap (map (window_of r)) (numbers_append first count more) ∙ map-append (window_of r) (numbers_from first count) (numbers_from (first + count) more)

-- the number that each of them has behind so many others
pub numbers_moved : (before number own count : ℕ) → 1 ≤ number → own + 1 ≡ before + number
    → map (λ (n : ℕ). before + (n - 1)) (numbers_from number count) ≡ numbers_from own count
numbers_moved before number own zero some is = refl
numbers_moved before number own (suc count) some is =
    let here : before + (number - 1) ≡ own = omega (arith, some, is) in
    ap (λ (n : ℕ). n ∷ map (λ (k : ℕ). before + (k - 1)) (numbers_from (number + 1) count)) here
    ∙ ap (λ (rest : List ℕ). own ∷ rest) (numbers_moved before (number + 1) (own + 1) count (omega (arith, some)) (omega (arith, is)))
