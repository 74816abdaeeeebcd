-- Laws: where each window of a recording stands among its windows.
use Rattle.std.specs.Prelude.{◌≡◌, ℕ, zero, suc, ◌+◌, ◌-◌, ◌<◌, ◌≤◌, ◌∷◌, Some, drop, length, map, slice_get}
use Rattle.std.proofs.Common.{refl, sym, ap, ◌∙◌, add-one, arith}
use Rattle.std.proofs.lemmas.List.{length-map}
use Rattle.gp_window.specs.RecordingForm.{RecordingForm}
use Rattle.gp_window.specs.WindowForm.{numbers_from, window_of}
use Rattle.gp_window.specs.Windows.{all_windows, windows_from}

counted_there : {A : Type 0} (f : ℕ → A) (first count k : ℕ) → k < count → slice_get (map f (numbers_from first count)) k ≡ Some (f (first + k))
counted_there f first zero k below = absurd (omega (arith, below))
counted_there f first (suc count) zero below = let number : first ≡ first + zero = omega arith in ap (λ (n : ℕ). Some (f n)) number
counted_there f first (suc count) (suc k) below =
    let number : first + 1 + k ≡ first + suc k = omega arith in counted_there f (first + 1) count k (omega (arith, below)) ∙ ap (λ (n : ℕ). Some (f n)) number

-- so many numbers are as many
pub count_numbers : (first count : ℕ) → length (numbers_from first count) ≡ count
count_numbers first zero = refl
count_numbers first (suc count) = ap suc (count_numbers (first + 1) count)

-- so many windows are as many
pub count_windows : (r : RecordingForm) (first count : ℕ) → length (windows_from r first count) ≡ count
count_windows r first count = length-map (numbers_from first count) (window_of r) ∙ count_numbers first count

-- window k stands at place k - 1
pub window_there : (r : RecordingForm) (number : ℕ) → 1 ≤ number → number ≤ r.manifest.epochs → slice_get (all_windows r) (number - 1) ≡ Some (window_of r number)
window_there r number some within =
    let place : 1 + (number - 1) ≡ number = omega (arith, some) in
    counted_there (window_of r) 1 r.manifest.epochs (number - 1) (omega (arith, some, within)) ∙ ap (λ (n : ℕ). Some (window_of r n)) place

-- the first of some windows, and those after it
pub first_window : (r : RecordingForm) (first count rest : ℕ) → count ≡ rest + 1 → windows_from r first count ≡ window_of r first ∷ windows_from r (first + 1) rest
first_window r first count rest is = ap (λ (n : ℕ). windows_from r first n) (is ∙ add-one rest)

-- without so many windows at the front, those from a later one on are left
pub windows_dropped : (r : RecordingForm) (first count n : ℕ) → drop n (windows_from r first count) ≡ windows_from r (first + n) (count - n)
windows_dropped r first count zero =
    let here : first + 0 ≡ first = omega arith in
    let all : count - 0 ≡ count = omega arith in
    ap (λ k. windows_from r k count) (sym here) ∙ ap (windows_from r (first + 0)) (sym all)
windows_dropped r first zero (suc n) = let none : 0 - suc n ≡ 0 = omega arith in ap (windows_from r (first + suc n)) (sym none)
windows_dropped r first (suc count) (suc n) =
    let further : first + 1 + n ≡ first + suc n = omega arith in
    let fewer : suc count - suc n ≡ count - n = omega arith in
    windows_dropped r (first + 1) count n ∙ ap (λ k. windows_from r k (count - n)) further ∙ ap (windows_from r (first + suc n)) (sym fewer)
