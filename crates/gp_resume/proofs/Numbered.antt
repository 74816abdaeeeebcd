-- The record of a number stands at its place.
use Rattle.std.proofs.Common.{◌≡◌, ◌⊎◌, inl, inr, eq-eqb, drop, slice_index_or, refl, ap, ◌∙◌, ℕ, suc, ◌+◌, ◌-◌, ◌≤◌, ◌==◌, true, false, List, [], ◌∷◌, length, map, find, arith}
use Rattle.std.specs.List.{slice_get}
use Rattle.std.proofs.lemmas.Bool.{cases_eq}
use Rattle.std.proofs.lemmas.Bool.Decides.{nat_tests}
use Rattle.gp_report.specs.Records.{WindowRecord}
use Rattle.gp_window.specs.WindowForm.{numbers_from}

pub at_place : (number : ℕ) (windows : List WindowRecord) (start : ℕ) → map (λ (told : WindowRecord). told.number) windows ≡ numbers_from start (length windows) → start ≤ number
    → slice_get windows (number - start) ≡ find (λ (told : WindowRecord). told.number == number) windows
at_place number [] start numbered first = refl
at_place number (told ∷ windows) start numbered first = at (cases_eq start number) (at_place number windows (start + 1) (ap (drop 1) numbered))
  where
    begins : told.number ≡ start
    begins = ap (λ (ns : List ℕ). slice_index_or ns 0 0) numbered

    at : (start ≡ number) ⊎ (start ≡ number → ⊥) → (start + 1 ≤ number → slice_get windows (number - (start + 1)) ≡ find (λ (told : WindowRecord). told.number == number) windows)
        → slice_get (told ∷ windows) (number - start) ≡ find (λ (told : WindowRecord). told.number == number) (told ∷ windows)
    at (inl same) rest =
        let here : (told.number == number) ≡ true = eq-eqb told.number number (begins ∙ same) in
        let none : number - start ≡ 0 = omega (arith, same) in
        ap (λ (n : ℕ). slice_get (told ∷ windows) n) none ∙ rw here refl
    at (inr apart) rest =
        let other : (told.number == number) ≡ false = grind (arith, nat_tests) in
        let next : number - start ≡ suc (number - (start + 1)) = grind arith in
        ap (λ (n : ℕ). slice_get (told ∷ windows) n) next ∙ rw other (rest (grind arith))
