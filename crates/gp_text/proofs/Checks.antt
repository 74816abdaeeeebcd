-- A line without fault is followed by the fault of what is left.
use Rattle.std.proofs.Common.{◌≡◌, ◌∙◌, sym, ap, refl, ℕ, ◌+◌, ◌<◌, ◌==◌, List, [], ◌∷◌, length, Result, Ok, arith}
use Rattle.std.proofs.lemmas.List.Splits.{length-slice_split}
use Rattle.gp_text.specs.Lines.{check_from, check_of, parts_of}
use Rattle.gp_text.specs.declared.lines.TextFault.{TextFault}

pub step : (n : ℕ) (line : List ℕ) (parts : List (List ℕ)) → 0 < length parts → check_of n line ≡ Ok tt → check_from n (line ∷ parts) ≡ check_from (n + 1) parts
step n line [] some ok = absurd (omega arith)
step n line (part ∷ more) some ok = rw ok refl

-- the same, where the line was cut off a text
pub goes_on : (n : ℕ) (rest line after : List ℕ) (whole : Result (Unit {0}) TextFault) → parts_of rest ≡ line ∷ parts_of after → check_of n line ≡ Ok tt
    → check_from n (parts_of rest) ≡ whole → check_from (n + 1) (parts_of after) ≡ whole
goes_on n rest line after whole cut ok so_far =
    let some : 0 < length (parts_of after) = omega (arith, length-slice_split (λ b. b == 10) after) in
    sym (step n line (parts_of after) some ok) ∙ sym (ap (check_from n) cut) ∙ so_far
